-- That an array of rows holds the conflicts of a catalogue.
use Rattle.std.specs.Prelude.{ℕ, ◌+◌, ◌<◌, ◌≡◌, List, [], length, get_or}
use Rattle.spec.specs.Answers.{yes_no}
use Rattle.spec.specs.Conflict.{conflict}

-- 24 rows of 24 numbers: row i tells by 1 or 0 which commands conflict with command i + 1. It holds above N too, where
-- a number conflicts with itself alone, so that nothing above has to know N.
pub record Conflicts (c : List ℕ) (rows : List (List ℕ)) : Type 0 where
  pub tall : length rows ≡ 24
  pub wide : (i : ℕ) → i < 24 → length (get_or rows i []) ≡ 24
  pub tells : (i j : ℕ) → i < 24 → j < 24 → get_or (get_or rows i []) j 0 ≡ yes_no (conflict c (i + 1) (j + 1))
