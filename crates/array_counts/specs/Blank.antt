-- 24 zeros, and 24 ones.
use Rattle.std.specs.Prelude.{ℕ, ◌<◌, ◌≡◌, List, length, get_or, replicate}

unfoldable pub blank_heights : List ℕ
blank_heights = replicate 24 0

pub record Ones (r : List ℕ) : Type 0 where
  pub many : length r ≡ 24
  pub each : (i : ℕ) → i < 24 → get_or r i 0 ≡ 1
