-- A piling as arrays: 24 rows of 1,024 beads, bottoms first, beside 24 heights. The bead of a letter on the stack of
-- its own command is its byte, so + is k and − is 128 + k; every other bead is 0, and so is all above a stack's
-- height.
use Rattle.std.specs.Prelude.{ℕ, ◌+◌, ◌<◌, ◌≤◌, ◌≡◌, List, [], reverse, length, get_or, take}
use Rattle.theory_words.specs.Stack.{proj}
use Rattle.spec.specs.Letters.{alphabet}

pub record Shape (rows : List (List ℕ)) (heights : List ℕ) : Type 0 where
  pub tall : length rows ≡ 24
  pub wide : (i : ℕ) → i < 24 → length (get_or rows i []) ≡ 1024
  pub many : length heights ≡ 24

-- the piling, under catalogue c, of a word whose letters are z, the last first
pub record Piled (c : List ℕ) (rows : List (List ℕ)) (heights : List ℕ) (z : List ℕ) : Type 0 where
  pub shape : Shape rows heights
  pub stack : (i : ℕ) → i < 24 → take (get_or heights i 0) (get_or rows i []) ≡ reverse (proj (alphabet c) 0 (i + 1) z)
  pub height : (i : ℕ) → i < 24 → get_or heights i 0 ≡ length (proj (alphabet c) 0 (i + 1) z)
  pub above : (i j : ℕ) → i < 24 → get_or heights i 0 ≤ j → get_or (get_or rows i []) j 0 ≡ 0

-- the piling of z, which has n letters
pub record Counted (c : List ℕ) (rows : List (List ℕ)) (heights z : List ℕ) (n : ℕ) : Type 0 where
  pub piled : Piled c rows heights z
  pub count : n ≡ length z
