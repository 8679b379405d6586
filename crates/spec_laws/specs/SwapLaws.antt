-- Swaps of plans are swaps of words. A shortest plan is its own word, which is reduced, so that all shortest plans of
-- one effect differ by swaps alone.
use Rattle.std.specs.Prelude.{ℕ, ◌≤◌, ◌≡◌, true, List}
use Rattle.std.proofs.Common.{arith}
use Rattle.std.proofs.Math.ListN.{length}
use Rattle.theory_words.specs.All.{all_along}
use Rattle.theory_words.specs.Trace as Trace
use Rattle.theory_words.specs.Trace.{done, cons, swap, next}
use Rattle.theory_words.specs.TraceLaws.{~_refl}
use Rattle.theory_words.specs.Group as Group
use Rattle.theory_words.specs.Group.{Reduced}
use Rattle.theory_words.specs.Reduce.{reduce}
use Rattle.theory_words.specs.ReduceLaws.{long_reduced, reduced_~}
use Rattle.theory_words.specs.NormalLaws.{nf-length}
use Rattle.spec.specs.Catalogue.{commands}
use Rattle.spec.specs.Plan.{is_command, Passing}
use Rattle.spec.specs.Letters.{letters, alphabet, normal_form}
use Rattle.spec_laws.specs.LettersLaws.{Commands, letters_commands, letters-length}
use Rattle.spec.specs.Step.{Equal}
use Rattle.spec_laws.specs.StepLaws.{equal_words, equal_letters, equal_left, equal_right, equal_sym}
use Rattle.spec_laws.specs.NormalFormLaws.{letters_full, normal_equal}
use Rattle.spec.specs.Core.{Swaps, none, front, behind, also, Least}

module _ (c : List ℕ) where
  infix 20 ◌~◌
  abbrev ◌~◌ : List ℕ → List ℕ → Type 0
  ◌~◌ = Trace.◌~◌ (alphabet c)

  abbrev n : ℕ
  n = commands c

  pub words_swaps : {v w : List ℕ} → v ~ w → Commands n v → Swaps c v w
  words_swaps done h = none
  words_swaps (cons e) h = behind (words_swaps e h.1)
  words_swaps (swap d) h = front h.0 h.1.0 d
  words_swaps (next e f) h =
      also (words_swaps e h) (words_swaps f (all_along (alphabet c) (λ b. is_command n b ≡ true) e h))

  pub swaps_words : {v w : List ℕ} → Swaps c v w → v ~ w
  swaps_words (none {v = v}) = ~_refl (alphabet c) v
  swaps_words (front j k d) = swap d
  swaps_words (behind s) = cons (swaps_words s)
  swaps_words (also s t) = next (swaps_words s) (swaps_words t)

  module _ (x : List ℕ) (h : Passing n x) (l : Least c x) where
    pub least_letters : letters x ≡ x
    least_letters =
        letters_full x (omega (arith, l (letters x) (equal_sym c (equal_letters c x h)), letters-length x))

    pub least_commands : Commands n x
    least_commands = rw least_letters at (letters_commands n x h)

    pub least_reduced : Reduced (alphabet c) x
    unfolding normal_form
    least_reduced =
        let e : length (normal_form c x) ≡ length (reduce (alphabet c) (letters x)) =
        nf-length (alphabet c) (letters x) in
        let k : length x ≤ length (reduce (alphabet c) (letters x)) =
        omega (arith, e, l (normal_form c x) (normal_equal c x h)) in
        long_reduced (alphabet c) x (rw least_letters at k)

  pub swaps_alone : (x y : List ℕ) → Equal c x y → Least c x → Least c y → Swaps c x y
  swaps_alone x y e k l =
      let hx = equal_left c e in
      let hy = equal_right c e in
      let f : Group.◌≈◌ (alphabet c) x y = rw (least_letters x hx k, least_letters y hy l) at (equal_words c e) in
      words_swaps (reduced_~ (alphabet c) x y (least_reduced x hx k) (least_reduced y hy l) f) (least_commands x hx k)
