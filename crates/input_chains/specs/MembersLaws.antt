-- The members that a row of flags tells: who stands among them, and the loop that marks them one by one.
use Rattle.std.specs.Prelude.{ℕ, zero, suc, ◌+◌, ◌≤◌, ◌<◌, ◌≡◌, refl, Bool, true, false, length}
use Rattle.std.proofs.Common.{add-one, ap, ◌∙◌, eq-eqb, ne_eqb}
use native.Mathlib.Omega.{arith}
use Rattle.std.proofs.Math.Path.{sym}
use mathlib.Core.List.{List, [], ◌∷◌}
use Rattle.std.proofs.Math.ListN.{get_or, drop, drop_of_length-le}
use Rattle.std.proofs.Math.Seq.{drop-cons}
use Rattle.spec.specs.Catalogue.{stands}
use Rattle.spec.specs.Answers.{yes_no}
use Rattle.input_chains.specs.Marking.{Shape, pair, pairs, member, members, marked_if}
use Rattle.input_chains.specs.MarkingLaws.{Fit, pair_shape}

-- the members of a row of flags

pub members_fit : (k : ℕ) (fs : List ℕ) → k + length fs ≤ 24 → Fit (members k fs)
unfolding members
members_fit k [] h = tt
members_fit k (zero ∷ fs) h = members_fit (k + 1) fs (omega arith)
members_fit k (suc f ∷ fs) h = ((omega arith, omega arith), members_fit (k + 1) fs (omega arith))

members_above : (k : ℕ) (fs : List ℕ) (x : ℕ) → x ≤ k → stands x (members k fs) ≡ false
unfolding members stands
members_above k [] x h = refl
members_above k (zero ∷ fs) x h = members_above (k + 1) fs x (omega arith)
members_above k (suc f ∷ fs) x h = rw (ne_eqb x (k + 1) (omega arith)) (members_above (k + 1) fs x (omega arith))

-- a command stands among them if its flag is set
pub members_stand : (k : ℕ) (fs : List ℕ) (j : ℕ) (t : Bool) → j < length fs → get_or fs j 0 ≡ yes_no t
    → stands (k + j + 1) (members k fs) ≡ t
unfolding members stands
members_stand k [] j t h e = absurd (omega arith)
members_stand k (zero ∷ fs) zero true h e = absurd (omega arith)
members_stand k (zero ∷ fs) zero false h e = members_above (k + 1) fs (k + 0 + 1) (omega arith)
members_stand k (suc f ∷ fs) zero true h e = rw (eq-eqb (k + 0 + 1) (k + 1) (omega arith))
members_stand k (suc f ∷ fs) zero false h e = absurd (omega arith)
members_stand k (zero ∷ fs) (suc j) t h e =
    let m : k + suc j + 1 ≡ k + 1 + j + 1 = omega arith in
    let s : stands (k + 1 + j + 1) (members (k + 1) fs) ≡ t = members_stand (k + 1) fs j t (omega arith) e in
    ap (λ (n : ℕ). stands n (members (k + 1) fs)) m ∙ s
members_stand k (suc f ∷ fs) (suc j) t h e =
    let m : k + suc j + 1 ≡ k + 1 + j + 1 = omega arith in
    let s : stands (k + 1 + j + 1) (members (k + 1) fs) ≡ t = members_stand (k + 1) fs j t (omega arith) e in
    rw (ne_eqb (k + suc j + 1) (k + 1) (omega arith)) (ap (λ (n : ℕ). stands n (members (k + 1) fs)) m ∙ s)

-- marking them one by one

marked_more : (f : ℕ) (rows : List (List ℕ)) (a j : ℕ) (ms : List ℕ)
    → pairs (marked_if f rows a (j + 1)) a ms ≡ pairs rows a (member j f ms)
unfolding pairs
marked_more zero rows a j ms = refl
marked_more (suc f) rows a j ms = refl

-- a flag that is set, or not
pub marked_yes : (f : ℕ) (rows : List (List ℕ)) (a b : ℕ) → (f ≡ 0 → ⊥) → pair rows a b ≡ marked_if f rows a b
marked_yes zero rows a b n = absurd (n refl)
marked_yes (suc k) rows a b n = refl

pub marked_no : (f : ℕ) (rows : List (List ℕ)) (a b : ℕ) → f ≡ 0 → rows ≡ marked_if f rows a b
marked_no zero rows a b e = refl
marked_no (suc k) rows a b e = absurd (omega arith)

-- the members from j on are still to be marked
pub record MarkingMembers (a : ℕ) (line : List ℕ) (rows₀ rows : List (List ℕ)) (j : ℕ) : Type 0 where
  pub shape : Shape rows
  pub most : j ≤ 24
  pub marks : pairs rows a (members j (drop j line)) ≡ pairs rows₀ a (members 0 line)

module _ (a : ℕ) (ha : (1 ≤ a) × (a ≤ 24)) (line : List ℕ) (wide : length line ≡ 24) where
  pub marking_start : (rows : List (List ℕ)) → Shape rows → MarkingMembers a line rows rows 0
  marking_start rows s = record { shape = s; most = omega arith; marks = refl }

  if_shape : (f : ℕ) (rows : List (List ℕ)) (b : ℕ) → (1 ≤ b) × (b ≤ 24) → Shape rows → Shape (marked_if f rows a b)
  if_shape zero rows b hb s = s
  if_shape (suc f) rows b hb s = pair_shape rows s a b ha hb

  pub marking_again : {rows₀ rows rows' : List (List ℕ)} {j : ℕ} → MarkingMembers a line rows₀ rows j → j < 24
      → rows' ≡ marked_if (get_or line j 0) rows a (j + 1) → MarkingMembers a line rows₀ rows' (j + 1)
  unfolding members
  marking_again {rows = rows} {j = j} k h e =
      let d : drop j line ≡ get_or line j 0 ∷ drop (j + 1) line
      = drop-cons line j 0 (omega arith) ∙ rw (add-one j) in
      let m : pairs rows a (member j (get_or line j 0) (members (j + 1) (drop (j + 1) line)))
      ≡ pairs rows a (members j (drop j line)) = rw d in
      rw e
      (record {
        shape = if_shape (get_or line j 0) rows (j + 1) (omega arith, omega arith) k.shape;
        most = omega arith;
        marks = marked_more (get_or line j 0) rows a j (members (j + 1) (drop (j + 1) line)) ∙ m ∙ k.marks;
      })

  pub marking_end : {rows₀ rows : List (List ℕ)} {j : ℕ} → MarkingMembers a line rows₀ rows j → 24 ≤ j
      → rows ≡ pairs rows₀ a (members 0 line)
  unfolding members pairs
  marking_end {rows = rows} {j = j} k h =
      let d : drop j line ≡ [] = drop_of_length-le line {i = j} (omega (arith, wide)) in
      let m : pairs rows a (members j (drop j line)) ≡ rows = rw d in
      sym m ∙ k.marks
