-- How many rounds it takes to settle the parts of a word.
use Rattle.std.specs.Prelude.{ℕ, zero, max, List, [], ◌∷◌, length}
use Rattle.theory_words.specs.Alphabet.{Alphabet, Word}
use Rattle.theory_conjugacy.specs.Part.{commands, apexes, part}
use Rattle.theory_conjugacy.specs.Settle.{counted}

module _ (Γ : Alphabet) where
  -- a part with s commands, counted as far as s, which no part reaches
  unfoldable pub part_rounds : ℕ → Word Γ → ℕ
  part_rounds m x = let p = part Γ m x in counted Γ m (length (commands Γ p)) p

  -- the largest number among the parts with these apexes; 0 if there are none
  unfoldable pub most_rounds : List ℕ → Word Γ → ℕ
  most_rounds [] x = zero
  most_rounds (m ∷ ms) x = max (part_rounds m x) (most_rounds ms x)

  -- the largest number among all parts
  unfoldable pub core_rounds : Word Γ → ℕ
  core_rounds x = most_rounds (apexes Γ x) x
