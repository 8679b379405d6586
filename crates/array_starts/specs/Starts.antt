-- For each row how many rows come before the first one that conflicts with it.
use Rattle.std.specs.Prelude.{ℕ, ◌<◌, ◌≤◌, ◌≡◌, List, [], get_or}

-- the rows below the number at k do not conflict with row k
pub record Starts (table : List (List ℕ)) (starts : List ℕ) : Type 0 where
  pub within : (k : ℕ) → k < 24 → get_or starts k 0 ≤ 24
  pub apart : (k : ℕ) → k < 24 → (i : ℕ) → i < get_or starts k 0 → get_or (get_or table i []) k 0 ≡ 0
