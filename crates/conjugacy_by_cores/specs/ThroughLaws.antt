-- Two words are joined exactly if words that swaps lead to from their cores are, and a conjugator between those gives
-- one between the words.
use Rattle.std.specs.Prelude.{◌+◌, ◌≡◌, [], ◌++◌, length}
use Rattle.std.proofs.Common.{arith, ◌∙◌, length-append}
use Rattle.theory_words.specs.BoolLaws.{true_same}
use Rattle.theory_words.specs.All.{All, all_append}
use Rattle.theory_words.specs.Alphabet.{Alphabet, Word}
use Rattle.theory_words.specs.Trace as Trace
use Rattle.theory_words.specs.TraceLaws.{~_sym}
use Rattle.theory_words.specs.Group as Group
use Rattle.theory_words.specs.Group.{undo, conj, then, back}
use Rattle.theory_words.specs.GroupLaws.{≈_of_≡, ~→≈, ≈-conj, conj-append, conj-undo, undo_length}
use Rattle.theory_conjugacy.specs.Turn.{same, also}
use Rattle.theory_conjugacy.specs.Core.{core}
use Rattle.theory_conjugacy.specs.ConjugateLaws.{conjugate_cores, cores_conjugate}
use Rattle.theory_conjugacy.specs.Part.{apexes}
use Rattle.theory_conjugacy.specs.Decision.{cores_joined?, joined?}
use Rattle.theory_conjugacy.specs.DecisionLaws.{turns_joined, cores_lead, conjugate_joined, lead_in_conj}
use Rattle.theory_conjugacy.specs.LeadIn.{parts_lead, lead_in}
use Rattle.theory_conjugacy.specs.LeadInLaws.{all_undo}

module _ (Γ : Alphabet) where
  open Γ use {Letter, inv, cmd}

  infix 20 ◌~◌ ◌≈◌
  abbrev ◌~◌ : Word Γ → Word Γ → Type 0
  ◌~◌ = Trace.◌~◌ Γ

  abbrev ◌≈◌ : Word Γ → Word Γ → Type 0
  ◌≈◌ = Group.◌≈◌ Γ

  -- the verdict is the same on words that swaps lead to from the cores
  pub cores_joined_same : (v w x y : Word Γ) → x ~ core Γ v → y ~ core Γ w → cores_joined? Γ x y ≡ joined? Γ v w
  cores_joined_same v w x y d e = true_same (cores_joined? Γ x y) (joined? Γ v w)
      (λ t. conjugate_joined Γ _ v w (cores_conjugate Γ (parts_lead Γ (apexes Γ x) x y) v w
      (then (≈-conj Γ (parts_lead Γ (apexes Γ x) x y) (back (~→≈ Γ d))) (then (cores_lead Γ x y t) (~→≈ Γ e)))))
      (λ t. turns_joined Γ (also (same d)
      (also (conjugate_cores Γ (lead_in Γ v w) v w (lead_in_conj Γ v w t)) (same (~_sym Γ e)))))

  -- from v to x by g, then from x to y by u, then back from y to w by h
  abbrev pub through : Word Γ → Word Γ → Word Γ → Word Γ
  through g u h = g ++ (u ++ undo Γ h [])

  pub through-conj : (g u h v w : Word Γ) {x y : Word Γ} → conj Γ g v ≈ x → conj Γ u x ≈ y → conj Γ h w ≈ y
      → conj Γ (through g u h) v ≈ w
  through-conj g u h v w d l e =
      let k = undo Γ h [] in
      then (≈_of_≡ Γ (conj-append Γ g (u ++ k) v ∙ conj-append Γ u k (conj Γ g v)))
      (then (≈-conj Γ k (then (≈-conj Γ u d) l)) (back (conj-undo Γ h e)))

  pub through_count : (g u h : Word Γ) → length (through g u h) ≡ length g + (length u + length h)
  through_count g u h = omega (
    arith,
    length-append g (u ++ undo Γ h []),
    length-append u (undo Γ h []),
    undo_length inv h [],
  )

  pub through_all : (P : Letter → Type 0) → ((a : Letter) → P a → P (inv a)) → (g u h : Word Γ)
      → All P g → All P u → All P h → All P (through g u h)
  through_all P f g u h a b i =
      all_append P g (u ++ undo Γ h []) a (all_append P u (undo Γ h []) b (all_undo Γ P f h [] i tt))
