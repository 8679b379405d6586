-- No two letters of a word can be swapped if its commands all conflict with each other. Such a word is its own normal
-- form if it is reduced.
use Rattle.std.specs.Prelude.{ℕ, ◌≤◌, ◌≡◌, refl, true, [], ◌∷◌}
use Rattle.std.proofs.Common.{le_refl, sym, ◌∙◌, true≢false}
use Rattle.theory_words.specs.Alphabet.{Alphabet, Word}
use Rattle.theory_words.specs.Trace.{Pick, here, there}
use Rattle.theory_words.specs.TraceLaws.{~_sym, pick_front}
use Rattle.theory_words.specs.Group.{Reduced}
use Rattle.theory_words.specs.Normal.{Ordered, nf}
use Rattle.theory_words.specs.NormalLaws.{nf_fixed}
use Rattle.theory_conjugacy.specs.Part.{commands}
use Rattle.theory_conjugacy.specs.CommandLaws.{Occurs, now, later, occurs_along, occurs_in}
use Rattle.theory_conjugacy.specs.Clique.{Clique}

module _ (Γ : Alphabet) where
  open Γ use {Letter, cmd, conf}

  -- any two letters are dependent
  abbrev Dependent : Word Γ → Type 0
  Dependent w = (j k : ℕ) → Occurs Γ j w → Occurs Γ k w → conf j k ≡ true

  -- none but the letter in front can come first
  front_alone : {a d : Letter} {w r : Word Γ} → Dependent (a ∷ w) → Pick Γ d (a ∷ w) r → cmd a ≤ cmd d
  front_alone {a} h here = le_refl (cmd a)
  front_alone {a} {d} h (there f p) =
      let o = occurs_along Γ (~_sym Γ (pick_front Γ p)) (now refl) in
      absurd (true≢false (sym (h (cmd d) (cmd a) (later o) (now refl)) ∙ f))

  dependent_ordered : (w : Word Γ) → Dependent w → Ordered Γ w
  dependent_ordered [] h = tt
  dependent_ordered (a ∷ w) h =
      (λ d f. front_alone h f.1, dependent_ordered w (λ j k o p. h j k (later o) (later p)))

  pub clique_normal : (w : Word Γ) → Reduced Γ w → Clique Γ (commands Γ w) → nf Γ w ≡ w
  clique_normal w r q = nf_fixed Γ w r (dependent_ordered w (λ j k o p. q j k (occurs_in Γ o) (occurs_in Γ p)))
