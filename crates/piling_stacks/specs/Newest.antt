-- The newest letter left of a command: the one that a letter of that command cancels with, if any.
use Rattle.std.specs.Prelude.{ℕ, ◌≡◌, List, [], ◌∷◌, eqb}
use Rattle.theory_words.specs.Filter.{keep_if}
use Rattle.spec.specs.Byte.{command_of}
use Rattle.spec.specs.Pairs.{Placed}

-- the places of the letters of command k, the newest first
unfoldable pub of_command : ℕ → List Placed → List ℕ
of_command k [] = []
of_command k (x ∷ t) = keep_if (eqb (command_of x.byte) k) x.place (of_command k t)

-- p is the place of the newest letter of command k
abbrev pub Newest : ℕ → ℕ → List Placed → Type 0
Newest k p t = (ps : List ℕ) × (of_command k t ≡ p ∷ ps)
