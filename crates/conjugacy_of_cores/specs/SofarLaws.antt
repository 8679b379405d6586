-- The loop over the commands: the lead-ins of the apexes passed stand in the row, which has room for the next, and the
-- rounds of their parts are counted.
use Prim.Native.Nat.{ℕ, zero, suc, ◌+◌, ◌*◌, ◌-◌, ◌≤◌, ◌<◌, max}
use native.Mathlib.Omega.{arith}
use Rattle.std.proofs.Common.{mul-le-mul_left, mul-add, add-mul, ◌∙◌, ap, length-append}
use Rattle.std.specs.Prelude.{◌≡◌, refl, true, false, length, take, None, Some}
use Rattle.std.proofs.lemmas.Option.{MatchOption-at_some, MatchOption-at_none}
use Rattle.std.proofs.Math.Path.{sym, subst}
use mathlib.Core.List.Memᴰ
use mathlib.Core.List.{List, [], ◌∷◌, ◌++◌, append_assoc, append-nil}
use Rattle.theory_words.specs.BoolLaws.{and_both}
use Rattle.theory_words.specs.All.{all_map}
use Rattle.theory_words.specs.TraceLaws.{~-length}
use Rattle.spec.specs.Catalogue as Catalogue
use Rattle.spec_laws.specs.CommandLaws.{command_range}
use Rattle.spec.specs.Letters.{alphabet}
use Rattle.theory_conjugacy.specs.AscendingLaws.{◌∈◌, Within}
use Rattle.theory_conjugacy.specs.CommandLaws.{Occurs, all_occurs}
use Rattle.theory_conjugacy.specs.Part.{commands, label, apexes, part, share}
use Rattle.theory_conjugacy.specs.PartLaws.{shares, part-share, apexes_same, apexes-~}
use Rattle.theory_conjugacy.specs.Decision.{part_ring, rotated?, parts_joined?}
use Rattle.theory_conjugacy.specs.LeadIn.{parts_lead}
use Rattle.theory_conjugacy.specs.LeadInLaws.{apical_part, parts_length}
use Rattle.theory_conjugacy.specs.JoinLaws.{parts_lead_length}
use Rattle.theory_conjugacy.specs.Rounds.{most_rounds}
use Rattle.conjugacy_rounds.specs.Apexes.{apex_at, apexes_from}
use Rattle.conjugacy_rounds.specs.ApexesLaws.{apexes_from_lem}
use Rattle.conjugacy_of_parts.specs.declared.Outcome.{Outcome}
use Rattle.conjugacy_of_parts.specs.Parts.{PartsJoined, both_rounds, PartsOutcome}
use Rattle.conjugacy_of_cores.specs.Pair.{parts_of, Joinable, Placeable, Sofar}
use Rattle.conjugacy_of_cores.specs.AppendLaws.{shares-append, joined_append, lead_append, rounds_append}

-- no lead-in yet
pub joined_none : (c x y row : List ℕ) (at : ℕ) → PartsJoined c x y [] row at row at
unfolding parts_joined? parts_lead
joined_none c x y row at = record {
  joined = refl;
  written = sym (append-nil (take at row));
  ends = omega arith;
}

-- one after the other
parts_joined_append : {c x y before mid after : List ℕ} {at end last : ℕ} (ms ns : List ℕ)
    → PartsJoined c x y ms before at mid end
    → PartsJoined c x y ns mid end after last → PartsJoined c x y (ms ++ ns) before at after last
parts_joined_append {c} {x} {y} {before} {mid} {after} {at} {end} {last} ms ns a b =
    let u = parts_lead (alphabet c) ms x y in
    let v = parts_lead (alphabet c) ns x y in
    let e = lead_append (alphabet c) ms ns x y in
    record {
      joined = rw (joined_append (alphabet c) ms ns x y, a.joined) b.joined;
      written = b.written ∙ ap (λ (z : List ℕ). z ++ v) a.written ∙ append_assoc (take at before) u v
          ∙ ap (λ (z : List ℕ). take at before ++ z) (sym e);
      ends = omega (arith, a.ends, b.ends, ap length e, length-append u v);
    }

-- the letters of the parts with these apexes

parts_of-append : (c x ms ns : List ℕ)
    → length (parts_of c (ms ++ ns) x) ≡ length (parts_of c ms x) + length (parts_of c ns x)
parts_of-append c x ms ns =
    ap length (shares-append (alphabet c) (label (alphabet c) x) ms ns x)
    ∙ length-append (parts_of c ms x) (parts_of c ns x)

parts_of_all : (c x : List ℕ) → length (parts_of c (apexes (alphabet c) x) x) ≡ length x
parts_of_all c x = sym (~-length (alphabet c) (apexes-~ (alphabet c) x))

-- joined parts have as many letters in one core as in the other
parts_of_joined : (c x y : List ℕ) → commands (alphabet c) x ≡ commands (alphabet c) y → (ms : List ℕ)
    → Within ms (apexes (alphabet c) x) → parts_joined? (alphabet c) ms x y ≡ true
    → length (parts_of c ms x) ≡ length (parts_of c ms y)
unfolding shares parts_joined? part_ring
parts_of_joined c x y same [] g t = refl
parts_of_joined c x y same (m ∷ ms) g t =
    let Γ = alphabet c in
    let (r, s) = and_both (rotated? Γ (part_ring Γ m x) (part_ring Γ m y)) (parts_joined? Γ ms x y) t in
    let i = g m (Memᴰ.head refl) in
    let j = subst (λ (ks : List ℕ). m ∈ ks) (apexes_same Γ x y same) i in
    let e : length (part Γ m x) ≡ length (part Γ m y) = parts_length Γ (apical_part Γ x i) (apical_part Γ y j) r in
    omega (
      arith,
      e,
      ap length (part-share Γ m x),
      ap length (part-share Γ m y),
      parts_of_joined c x y same ms (λ k o. g k (Memᴰ.tail o)) s,
      length-append (share Γ (label Γ x) m x) (parts_of c ms x),
      length-append (share Γ (label Γ y) m y) (parts_of c ms y),
    )

more_room : (n i j s at r : ℕ) → i ≤ n * j → at + n * (j + s) ≤ r → at + i + n * s ≤ r
more_room n i j s at r h k = omega (arith, mul-add n j s)

doubled : (n i l m : ℕ) → l ≡ m → i ≤ 2 * n * l → i ≤ n * (l + m)
doubled n i l m e h =
    let t : 2 * n ≡ n + n = omega arith in
    omega (arith, ap (λ j. j * l) t, add-mul n n l, mul-add n l m, ap (λ j. n * j) e)

-- those before, those behind and this one, in any order
max_behind : {most m n r d a v : ℕ} → most ≡ d → n ≡ a → r ≡ v → m ≡ max most n → max m r ≡ max d (max a v)
max_behind e f g h = omega arith

module _ {c : List ℕ} {conflicts : List (List ℕ)} {x y fs labels before : List ℕ} {at : ℕ}
    (h : Joinable c conflicts x y fs labels before at) where
  pub sofar_start : Sofar c x y fs labels before at before at 0 0
  unfolding most_rounds
  sofar_start = record {
    done = [];
    left = 24;
    count = refl;
    all = apexes_from_lem c x h.flagged.flags h.flagged.labelled;
    parts = joined_none c x y before at;
    rounds = refl;
  }

  abbrev N : ℕ
  N = Catalogue.commands c

  range : (j : ℕ) → Occurs (alphabet c) j x → (1 ≤ j) × (j ≤ N)
  range = all_occurs (alphabet c) (λ j. (1 ≤ j) × (j ≤ N)) x
      (all_map (λ b t. command_range N b (omega (arith, h.flagged.two.first.few)) t) x
      h.flagged.two.first.letters)

  -- the lead-ins of some of the apexes are short
  lead_ins_short : {after : List ℕ} {end : ℕ} (ms : List ℕ) → Within ms (apexes (alphabet c) x)
      → PartsJoined c x y ms before at after end
      → length (parts_lead (alphabet c) ms x y) ≤ N * (length (parts_of c ms x) + length (parts_of c ms y))
  lead_ins_short ms w l =
      let e = parts_lead_length (alphabet c) x y h.flagged.two.same N range ms w l.joined in
      doubled N (length (parts_lead (alphabet c) ms x y)) (length (parts_of c ms x)) (length (parts_of c ms y))
      (parts_of_joined c x y h.flagged.two.same ms w l.joined) (omega arith)

  module _ {after : List ℕ} {end most k : ℕ} (s : Sofar c x y fs labels before at after end most k) where
    abbrev rest : List ℕ
    rest = apexes_from fs labels s.left k

    within : Within s.done (apexes (alphabet c) x)
    within j i = subst (λ (ms : List ℕ). j ∈ ms) s.all (Memᴰ.append_left rest i)

    -- both cores' letters: those of the parts passed, and those of the parts left
    first_all : length (parts_of c s.done x) + length (parts_of c rest x) ≡ length x
    first_all = sym (parts_of-append c x s.done rest) ∙ ap (λ (ms : List ℕ). length (parts_of c ms x)) s.all
        ∙ parts_of_all c x

    second_all : length (parts_of c s.done y) + length (parts_of c rest y) ≡ length y
    second_all = sym (parts_of-append c y s.done rest)
        ∙ ap (λ (ms : List ℕ). length (parts_of c ms y)) (s.all ∙ apexes_same (alphabet c) x y h.flagged.two.same)
        ∙ parts_of_all c y

    rest_next : k < 24 → (n : ℕ) × (n + (k + 1) ≡ 24) × (rest ≡ apex_at fs labels k ++ apexes_from fs labels n (k + 1))
    unfolding apexes_from
    rest_next l = go s.left s.count
      where
        go : (n : ℕ) → n + k ≡ 24 → (m : ℕ) × (m + (k + 1) ≡ 24)
            × (apexes_from fs labels n k ≡ apex_at fs labels k ++ apexes_from fs labels m (k + 1))
        go zero e = absurd (omega arith)
        go (suc n) e = (n, omega arith, refl)

    sofar_room : k < 24 → length after ≡ length before
        → end + N * (length (parts_of c (apex_at fs labels k) x) + length (parts_of c (apex_at fs labels k) y))
        ≤ length after
    sofar_room l e =
        let (n, f, g) = rest_next l in
        let a = apex_at fs labels k in
        let m = apexes_from fs labels n (k + 1) in
        let one : length (parts_of c s.done x) + length (parts_of c a x) ≤ length x =
        omega (arith, first_all, ap (λ (ms : List ℕ). length (parts_of c ms x)) g, parts_of-append c x a m) in
        let two : length (parts_of c s.done y) + length (parts_of c a y) ≤ length y =
        omega (arith, second_all, ap (λ (ms : List ℕ). length (parts_of c ms y)) g, parts_of-append c y a m) in
        let d = length (parts_of c s.done x) + length (parts_of c s.done y) in
        let b = length (parts_of c a x) + length (parts_of c a y) in
        let t : d + b ≤ length x + length y = omega arith in
        let q = more_room N (length (parts_lead (alphabet c) s.done x y)) d b at (length before)
        (lead_ins_short s.done within s.parts) (omega (arith, h.room, mul-le-mul_left N t)) in
        omega (arith, q, s.parts.ends)

    pub sofar_again : {after' : List ℕ} {o : Outcome} {end' m : ℕ} → k < 24
        → PartsOutcome c x y (apex_at fs labels k) after end after' o → o.end ≡ Some end' → m ≡ max most o.rounds
        → Sofar c x y fs labels before at after' end' m (k + 1)
    sofar_again {end' = end'} l (p, t) i e =
        let (n, f, g) = rest_next l in
        let d = MatchOption-at_some _ _ end' i p in
        record {
          done = s.done ++ apex_at fs labels k;
          left = n;
          count = f;
          all = append_assoc s.done (apex_at fs labels k) (apexes_from fs labels n (k + 1))
              ∙ ap (λ (z : List ℕ). s.done ++ z) (sym g) ∙ s.all;
          parts = parts_joined_append s.done (apex_at fs labels k) s.parts d;
          rounds = omega (arith, s.rounds, t, e, rounds_append c s.done (apex_at fs labels k) x y);
        }

    apart_all : k < 24 → parts_joined? (alphabet c) (apex_at fs labels k) x y ≡ false
        → parts_joined? (alphabet c) (apexes (alphabet c) x) x y ≡ false
    apart_all l e =
        let (n, f, g) = rest_next l in
        let m = apexes_from fs labels n (k + 1) in
        rw (
          ← s.all,
          joined_append (alphabet c) s.done rest x y,
          s.parts.joined,
          g,
          joined_append (alphabet c) (apex_at fs labels k) m x y,
          e,
        )

    -- with those of the parts behind it, all are counted
    all_rounds : {n r m : ℕ} → k < 24 → n ≡ both_rounds c (apex_at fs labels k) x y
        → r ≡ both_rounds c (apexes_from fs labels (24 - (k + 1)) (k + 1)) x y → m ≡ max most n
        → max m r ≡ both_rounds c (apexes (alphabet c) x) x y
    all_rounds l e i f =
        let (n, t, g) = rest_next l in
        let a = apex_at fs labels k in
        let b : List ℕ → ℕ = λ (ms : List ℕ). both_rounds c ms x y in
        let q : 24 - (k + 1) ≡ n = omega arith in
        let w = max_behind s.rounds e (i ∙ ap (λ j. b (apexes_from fs labels j (k + 1))) q) f in
        w ∙ ap (max (b s.done)) (sym (ap b g ∙ rounds_append c a (apexes_from fs labels n (k + 1)) x y))
        ∙ sym (rounds_append c s.done rest x y) ∙ ap b s.all

    pub sofar_stop : (after' after'' : List ℕ) {o : Outcome} {r m t : ℕ} → k < 24
        → PartsOutcome c x y (apex_at fs labels k) after end after' o → o.end ≡ None → m ≡ max most o.rounds
        → r ≡ both_rounds c (apexes_from fs labels (24 - (k + 1)) (k + 1)) x y → t ≡ max m r
        → PartsOutcome c x y (apexes (alphabet c) x) before at after'' (record { end = None; rounds = t })
    sofar_stop after' after'' l (p, e) f g i j =
        (apart_all l (MatchOption-at_none _ _ f p), j ∙ all_rounds l e i g)

    pub sofar_end : (k < 24 → ⊥) → PartsOutcome c x y (apexes (alphabet c) x) before at after (record { end = Some end; rounds = most })
    unfolding apexes_from
    sofar_end n = subst (λ (ms : List ℕ). PartsOutcome c x y ms before at after (record { end = Some end; rounds = most }))
        (go s.left s.count s.all) (s.parts, s.rounds)
      where
        go : (m : ℕ) → m + k ≡ 24 → s.done ++ apexes_from fs labels m k ≡ apexes (alphabet c) x
            → s.done ≡ apexes (alphabet c) x
        go zero e f = sym (append-nil s.done) ∙ f
        go (suc m) e f = absurd (n (omega arith))

    -- so the next command can be tried
    pub sofar_placeable : length after ≡ length before → k < 24 → Placeable c conflicts x y fs labels k after end
    sofar_placeable e l = record { flagged = h.flagged; room = sofar_room l e }
