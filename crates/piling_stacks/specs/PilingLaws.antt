-- Laws of pilings: a letter put on a piling acts on the word that is piled.
use Rattle.std.specs.Prelude.{ℕ, ◌+◌, ◌-◌, ◌≤◌, ◌<◌, true, false, ◌≡◌, List, [], ◌∷◌, ◌++◌, reverse, length, get_or, take, set}
use Rattle.std.proofs.Common.{arith, true≢false, sym, ◌∙◌, ap, subst, length-set, length-append}
use Rattle.std.proofs.lemmas.Bool.{false≢true}
use Rattle.std.proofs.lemmas.List.{length-reverse}
use Rattle.theory_words.specs.Trace.{Pick, First}
use Rattle.theory_words.specs.Reduce.{act}
use Rattle.theory_words.specs.ReduceLaws.{cut, act_is}
use Rattle.theory_words.specs.Stack.{proj, mark}
use Rattle.theory_words.specs.StackLaws.{proj-length, stack_push, stack_pick, stack_first, stack_top}
use Rattle.spec.specs.Byte.{command_of, undone}
use Rattle.spec.specs.AlphabetLaws.{command_undone}
use Rattle.spec.specs.Letters.{alphabet}
use Rattle.piling_stacks.specs.Piling.{Piled}
use Rattle.array_counts.specs.Heights.{Both, Changed}
use Rattle.piling_stacks.specs.BeadsLaws.{Beads, written, beads_fit, beads_split, beads_top, meets_add, meets_off}
use Rattle.array_counts.specs.MeetsLaws.{Meets, meets_line, meets_length, meets_one}
use Rattle.piling_stacks.specs.Push.{Facing, Ready, Cancelled}
use Rattle.spec_laws.specs.PartnerLaws.{first_partner}
use Rattle.piling_stacks.specs.Newest.{of_command}
use Rattle.piling_stacks.specs.NewestLaws.{met_newest}

-- the stack of command i + 1, bottom first
abbrev stack_of : List ℕ → ℕ → List ℕ → List ℕ
stack_of c i z = reverse (proj (alphabet c) 0 (i + 1) z)

pub piled_beads : {c : List ℕ} {rows : List (List ℕ)} {heights z : List ℕ} → Piled c rows heights z
    → (i : ℕ) → i < 24 → Beads (get_or rows i []) (get_or heights i 0) (stack_of c i z)
piled_beads {c} {z = z} p i l = record {
  wide = p.shape.wide i l;
  stack = p.stack i l;
  height = p.height i l ∙ sym (length-reverse (proj (alphabet c) 0 (i + 1) z));
  above = λ j h. p.above i j l h;
}

pub beads_piled : {c : List ℕ} {rows : List (List ℕ)} {heights z : List ℕ} → length rows ≡ 24 → length heights ≡ 24
    → ((i : ℕ) → i < 24 → Beads (get_or rows i []) (get_or heights i 0) (stack_of c i z)) → Piled c rows heights z
beads_piled {c} {z = z} t m b = record {
  shape = record { tall = t; wide = λ i l. (b i l).wide; many = m };
  stack = λ i l. (b i l).stack;
  height = λ i l. (b i l).height ∙ length-reverse (proj (alphabet c) 0 (i + 1) z);
  above = λ i j l h. (b i l).above j h;
}

module _ {c : List ℕ} {rows : List (List ℕ)} {heights line : List ℕ} {k letter : ℕ} {z : List ℕ}
    (r : Facing c rows heights line k letter z) where
  row_inside : k < length rows
  row_inside = omega (arith, r.within, r.piled.shape.tall)

  -- a letter of the same command meets the stacks that the line tells
  letter_meets : (b i : ℕ) → command_of b ≡ k + 1 → i < 24 → Meets k b i (get_or line i 0) (mark (alphabet c) 0 (i + 1) b)
  letter_meets b i e l = meets_line c k b i (get_or line i 0) e (r.tells i l)

  own_undone : command_of (undone letter) ≡ k + 1
  own_undone = command_undone letter ∙ r.own

  pub facing_high : (i : ℕ) → i < 24 → get_or heights i 0 ≤ 1024
  facing_high i l = beads_fit (piled_beads r.piled i l)

  -- the undo on top of the letter's own stack can come first
  pub top_first : 0 < get_or heights k 0 → get_or (get_or rows k []) (get_or heights k 0 - 1) 0 ≡ undone letter
      → First (alphabet c) (undone letter) z
  top_first l e =
      let x = take (get_or heights k 0 - 1) (get_or rows k []) in
      let s : stack_of c k z ≡ x ++ undone letter ∷ []
      = beads_split l (piled_beads r.piled k r.within) ∙ ap (λ (b : ℕ). x ++ b ∷ []) e in
      let n : ¬ (undone letter ≡ 0) = λ f. omega (arith, own_undone, ap command_of f) in
      (stack_top (alphabet c) 0 (k + 1) z x s n).1

  -- and an undo that can come first is there
  pub first_top : First (alphabet c) (undone letter) z
      → (0 < get_or heights k 0) × (get_or (get_or rows k []) (get_or heights k 0 - 1) 0 ≡ undone letter)
  first_top (v, p) =
      let s : stack_of c k z ≡ stack_of c k v ++ undone letter ∷ []
      = subst (λ (j : ℕ). reverse (proj (alphabet c) 0 j z) ≡ reverse (proj (alphabet c) 0 j v) ++ undone letter ∷ [])
      own_undone (stack_first (alphabet c) 0 p) in
      let b : Beads (get_or rows k []) (get_or heights k 0) (stack_of c k v ++ undone letter ∷ [])
      = rw s at (piled_beads r.piled k r.within) in
      let l : 0 < get_or heights k 0 = omega (arith, b.height, length-append (stack_of c k v) (undone letter ∷ [])) in
      (l, beads_top (stack_of c k v) (undone letter) b)

  pub put_room : Both (λ h n. h + n < 65536) heights line
  put_room = record {
    many = r.piled.shape.many;
    wide = r.wide;
    holds = λ i l. omega (arith, facing_high i l, meets_one (letter_meets letter i r.own l));
  }

  -- the stacks, with what the undo put on them apart
  beads_apart : {v : List ℕ} → Pick (alphabet c) (undone letter) z v → (i : ℕ) → i < 24
      → Beads (get_or rows i []) (get_or heights i 0) (stack_of c i v ++ mark (alphabet c) 0 (i + 1) (undone letter))
  beads_apart p i l = rw (stack_pick (alphabet c) 0 (i + 1) p) at (piled_beads r.piled i l)

  pub cut_room : First (alphabet c) (undone letter) z → Both (λ h n. n ≤ h) heights line
  cut_room (v, p) = record {
    many = r.piled.shape.many;
    wide = r.wide;
    holds = λ i l. omega (
      arith,
      (beads_apart p i l).height,
      length-append (stack_of c i v) (mark (alphabet c) 0 (i + 1) (undone letter)),
      meets_length (letter_meets (undone letter) i own_undone l),
    );
  }

  -- rows with one bead written, and heights changed, are a piling if each row is
  changed_piled : {f : ℕ → ℕ → ℕ} {last : List ℕ} (h b : ℕ) (v : List ℕ) → Changed f line heights last
      → ((i : ℕ) → i < 24
      → Beads (get_or (written rows k h b) i []) (f (get_or heights i 0) (get_or line i 0)) (stack_of c i v))
      → Piled c (written rows k h b) last v
  changed_piled h b v m g = beads_piled
      (length-set rows k (set (get_or rows k []) h b) ∙ r.piled.shape.tall)
      (m.kept ∙ r.piled.shape.many)
      (λ i l. rw (m.each i l) (g i l))

  cut_piled : {last v : List ℕ} → Pick (alphabet c) (undone letter) z v → Changed ◌-◌ line heights last
      → Piled c (written rows k (get_or heights k 0 - 1) 0) last v
  cut_piled {v = v} p m = changed_piled (get_or heights k 0 - 1) 0 v m λ i l.
      meets_off rows heights k row_inside (stack_of c i v) (letter_meets (undone letter) i own_undone l)
      (beads_apart p i l)

  pub cut_acts : First (alphabet c) (undone letter) z → {last : List ℕ} → Changed ◌-◌ line heights last
      → Piled c (written rows k (get_or heights k 0 - 1) 0) last (act (alphabet c) letter z)
  cut_acts (v, p) m = rw (act_is (alphabet c) (cut p)) (cut_piled p m)

module _ {c : List ℕ} {rows : List (List ℕ)} {heights line : List ℕ} {k letter : ℕ} {z : List ℕ}
    (r : Ready c rows heights line k letter z) where
  pub ready_room : (i : ℕ) → i < 24 → get_or heights i 0 < 1024
  ready_room i l = omega (arith, r.room, r.facing.piled.height i l, proj-length (alphabet c) 0 (i + 1) z)

  pub put_piled : {last : List ℕ} → Changed ◌+◌ line heights last
      → Piled c (written rows k (get_or heights k 0) letter) last (letter ∷ z)
  put_piled m = changed_piled r.facing (get_or heights k 0) letter (letter ∷ z) m λ i l.
      rw (stack_push (alphabet c) 0 (i + 1) letter z)
      (meets_add rows heights k (row_inside r.facing) (letter_meets r.facing letter i r.facing.own l)
      (ready_room i l) (piled_beads r.facing.piled i l))

-- the two ends of cancelling
module _ {c : List ℕ} {rows : List (List ℕ)} {heights : List ℕ} {letter : ℕ} {z : List ℕ} where
  pub gone_off : First (alphabet c) (undone letter) z → Piled c rows heights (act (alphabet c) letter z)
      → Cancelled c rows heights letter z true
  gone_off f p = record {
    gone = λ e. (f, p);
    none = λ e. absurd (true≢false e);
    newest = λ e t s.
        let (q, found, m) = first_partner c letter t (subst (First (alphabet c) (undone letter)) (sym s) f) in
        (q, found, (of_command (command_of letter) q.rest, met_newest c m));
  }

  pub none_off : Piled c rows heights z → ¬ First (alphabet c) (undone letter) z
      → Cancelled c rows heights letter z false
  none_off p n = record {
    gone = λ e. absurd (false≢true e);
    none = λ e. (n, p);
    newest = λ e. absurd (false≢true e);
  }

-- where a letter has not cancelled it is as ready as before
pub still_ready : {c : List ℕ} {rows : List (List ℕ)} {heights line : List ℕ} {k letter : ℕ} {z : List ℕ}
    {rows' : List (List ℕ)} {heights' : List ℕ} → length z < 1024 → Facing c rows heights line k letter z
    → Piled c rows' heights' z → Ready c rows' heights' line k letter z
still_ready l r p = record {
  facing = record { piled = p; within = r.within; own = r.own; wide = r.wide; tells = r.tells };
  room = l;
}
