-- The stacks of a word (its piling), one for each command: a letter puts itself on the stack of its own command and a
-- blank on each other stack whose command conflicts with it.
use Rattle.std.specs.Prelude.{ℕ, ◌≡◌, Bool, true, false, [], ◌∷◌, ◌++◌, eqb}
use Rattle.theory_words.specs.All.{All}
use Rattle.theory_words.specs.Alphabet.{Alphabet, Word}

module _ (Γ : Alphabet) (blank : Γ.Letter) where
  open Γ use {Letter, cmd, conf}

  -- the commands conflict or not, the letter is of the stack's command or not
  unfoldable pub mark_step : Bool → Bool → Letter → Word Γ
  mark_step false own b = []
  mark_step true false b = blank ∷ []
  mark_step true true b = b ∷ []

  -- the bead that letter b puts on the stack of command k, if any
  unfoldable pub mark : ℕ → Letter → Word Γ
  mark k b = mark_step (conf k (cmd b)) (eqb (cmd b) k) b

  -- the beads of the stack of command k, those of the first letters first: the projection of w to k
  unfoldable pub proj : ℕ → Word Γ → Word Γ
  proj k [] = []
  proj k (b ∷ w) = mark k b ++ proj k w

  -- no letter of w is the blank
  abbrev pub NoBlank : Word Γ → Type 0
  NoBlank w = All (λ b. ¬ (b ≡ blank)) w
