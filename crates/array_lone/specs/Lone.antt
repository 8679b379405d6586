-- A table of conflicts in which each line has a one in its own place and nothing else.
use Rattle.std.specs.Prelude.{ℕ, ◌<◌, ◌≤◌, ◌≡◌, List, [], length, get_or}
use Rattle.array_words.specs.Words.{Sole}

-- 24 numbers, each 0 or 1
pub record Bits (line : List ℕ) : Type 0 where
  pub wide : length line ≡ 24
  pub low : (j : ℕ) → j < 24 → get_or line j 0 ≤ 1

abbrev pub Lone : List (List ℕ) → Type 0
Lone table = (k : ℕ) → k < 24 → Sole k (get_or table k [])
