-- A chain that several commands have: the members that one row tells are marked as the chain itself would be, and what
-- is known of each head stays known.
use Rattle.std.specs.Prelude.{ℕ, zero, suc, ◌+◌, ◌-◌, ◌≤◌, ◌<◌, ◌≡◌, refl, Bool, true, false, ◌||◌, ◌&&◌, List, [], length, get_or, set, replicate, eqb}
use Rattle.std.proofs.Math.Decide.{ℕ_discrete, dec_lt}
use Rattle.std.proofs.Common.{arith, sym, ◌∙◌, ap, subst, length-set, get_or-set_same, get_or-set_other, eq-eqb, ne_eqb}
use Rattle.std.proofs.Math.Bool.{or-false}
use Rattle.spec.specs.Catalogue.{commands, records, head, ends, chain, stands}
use Rattle.spec.specs.Answers.{yes_no}
use Rattle.input_catalogue.specs.Sound.{Sound}
use Rattle.input_chains.specs.Marking.{cell, pairs, notes, members}
use Rattle.input_conflicts.specs.MarkedRows.{Blank}
use Rattle.input_chains.specs.MarkingLaws.{Fit, notes_shape, notes-cell}
use Rattle.input_chains.specs.MembersLaws.{members_fit, members_stand}
use Rattle.input_chains.specs.WalkLaws.{follow_fit}
use Rattle.input_conflicts.specs.Known.{NoneKnown, Chained, Walked, Known}
use Rattle.input_conflicts.specs.ChainLaws.{chained_again}

-- what is known of the heads

pub none_known : (n : ℕ) → NoneKnown (replicate n 0)
none_known zero h = refl
none_known (suc n) zero = refl
none_known (suc n) (suc h) = none_known n h

pub known_start : (c : List ℕ) {own : List (List ℕ)} {firsts : List ℕ} → Blank own → NoneKnown firsts
    → records c < length firsts → Known c 1 own firsts
known_start c b n r = record {
  shape = b.shape;
  room = r;
  blank = λ i j l hi hj. b.clear i j hi hj;
  walked = λ h p. absurd (omega (arith, n h));
}

pub known_below : {c : List ℕ} {a : ℕ} {own : List (List ℕ)} {firsts : List ℕ} → Known c a own firsts
    → (h : ℕ) → get_or firsts h 0 ≤ a
known_below {a = a} {firsts = firsts} k h = go (dec_lt 0 (get_or firsts h 0))
  where
    go : Dec (0 < get_or firsts h 0) → get_or firsts h 0 ≤ a
    go (yes p) = omega (arith, (k.walked h p).below)
    go (no p) = omega arith

module _ (c : List ℕ) (s : Sound c) (a : ℕ) (la : 1 ≤ a) (ha : a ≤ commands c) where
  few : a ≤ 24
  few = omega (arith, s.framed.few)

  chain_fit : Fit (chain c a)
  chain_fit = follow_fit c s (records c) (head c a) (s.heads a la ha)

  -- the chain was walked
  pub walked_chained : {rows rows' : List (List ℕ)} → Chained c a rows → rows' ≡ pairs rows a (chain c a)
      → Chained c (a + 1) rows'
  walked_chained m e = chained_again c s a la ha (chain c a) chain_fit (λ x l h. refl) m e

  -- the head was met before, at command b
  module _ {own : List (List ℕ)} {firsts : List ℕ} (k : Known c a own firsts) {h b : ℕ}
      (eh : h ≡ head c a) (w : Walked c a own h b) where
    same_head : head c a ≡ head c b
    same_head = sym eh ∙ sym w.heads

    pub like_ends : true ≡ ends c (records c) (head c a)
    like_ends = sym (ap (ends c (records c)) (same_head ∙ w.heads) ∙ w.ending)

    abbrev line : List ℕ
    line = get_or own (b - 1) []

    wide : length line ≡ 24
    wide = k.shape.wide (b - 1) (omega (arith, w.one, w.below, few))

    pub like_chained : {rows rows' : List (List ℕ)} → Chained c a rows → rows' ≡ pairs rows a (members 0 line)
        → Chained c (a + 1) rows'
    like_chained m e = chained_again c s a la ha (members 0 line) (members_fit 0 line (omega (arith, wide))) same m e
      where
        same : (x : ℕ) → 1 ≤ x → x ≤ 24 → stands x (members 0 line) ≡ stands x (chain c a)
        same x l h =
            let e : 0 + (x - 1) + 1 ≡ x = omega arith in
            let f : x - 1 + 1 ≡ x = omega arith in
            let g : stands (x - 1 + 1) (chain c b) ≡ stands x (chain c a) =
            rw (f, same_head)
            in
            subst (λ (y : ℕ). stands y (members 0 line) ≡ stands x (chain c a)) e
            (members_stand 0 line (x - 1) (stands (x - 1 + 1) (chain c b)) (omega (arith, wide))
            (w.tells (x - 1) (omega arith)) ∙ g)

  -- no more is known
  pub like_known : {own : List (List ℕ)} {firsts : List ℕ} → Known c a own firsts → Known c (a + 1) own firsts
  like_known k = record {
    shape = k.shape;
    room = k.room;
    blank = λ i j l hi hj. k.blank i j (omega arith) hi hj;
    walked = λ h p. later (k.walked h p);
  }
    where
      later : {own : List (List ℕ)} {h b : ℕ} → Walked c a own h b → Walked c (a + 1) own h b
      later w = record {
        one = w.one;
        below = omega (arith, w.below);
        heads = w.heads;
        ending = w.ending;
        tells = w.tells;
      }

  -- the head of a is known now
  pub walked_known : {own own' : List (List ℕ)} {firsts : List ℕ} {h : ℕ} → Known c a own firsts
      → h ≡ head c a → own' ≡ notes own a (chain c a) → true ≡ ends c (records c) (head c a)
      → Known c (a + 1) own' (set firsts h a)
  walked_known {own} {firsts = firsts} {h = h} k eh e t = rw e
      (record {
        shape = notes_shape a (la, few) (chain c a) own chain_fit k.shape;
        room = rw (length-set firsts h a) k.room;
        blank = λ i j l hi hj.
            other i j hi hj (λ z. omega arith) false (k.blank i j (omega arith) hi hj);
        walked = λ x p. go x p (ℕ_discrete x h);
      })
    where
      cells : (i j : ℕ) → i < 24 → j < 24 → (q : Bool) → cell own i j ≡ yes_no q
          → cell (notes own a (chain c a)) i j ≡ yes_no ((eqb (i + 1) a && stands (j + 1) (chain c a)) || q)
      cells i j hi hj q f = notes-cell a (la, few) (chain c a) own chain_fit k.shape i j q f

      other : (i j : ℕ) → i < 24 → j < 24 → (i + 1 ≡ a → ⊥) → (q : Bool) → cell own i j ≡ yes_no q
          → cell (notes own a (chain c a)) i j ≡ yes_no q
      other i j hi hj n q f = cells i j hi hj q f ∙ rw (ne_eqb (i + 1) a n)

      here : h < length firsts
      here = omega (arith, k.room, s.heads a la ha, eh)

      go : (x : ℕ) → 0 < get_or (set firsts h a) x 0 → Dec (x ≡ h)
          → Walked c (a + 1) (notes own a (chain c a)) x (get_or (set firsts h a) x 0)
      go x p (yes z) =
          let g : get_or (set firsts h a) x 0 ≡ a
          = ap (λ (y : ℕ). get_or (set firsts h a) y 0) z ∙ get_or-set_same firsts h a 0 here in
          rw g
          (record {
            one = la;
            below = omega arith;
            heads = sym eh ∙ sym z;
            ending = ap (ends c (records c)) (z ∙ eh) ∙ sym t;
            tells = λ j hj.
                let m : a - 1 + 1 ≡ a = omega arith in
                cells (a - 1) j (omega (arith, few)) hj false (k.blank (a - 1) j (omega arith) (omega (arith, few)) hj)
                ∙ rw (m, eq-eqb a a refl, or-false);
          })
      go x p (no z) =
          let g : get_or (set firsts h a) x 0 ≡ get_or firsts x 0 = get_or-set_other firsts h x a 0 z in
          let w = k.walked x (subst (λ (n : ℕ). 0 < n) g p) in
          rw g
          (record {
            one = w.one;
            below = omega (arith, w.below);
            heads = w.heads;
            ending = w.ending;
            tells = λ j hj.
                other (get_or firsts x 0 - 1) j (omega (arith, w.one, w.below, few)) hj
                (λ e. omega (arith, w.one, w.below))
                (stands (j + 1) (chain c (get_or firsts x 0))) (w.tells j hj);
          })
