-- The labels of 24 commands in an array.
use Rattle.std.specs.Prelude.{ℕ, ◌+◌, ◌<◌, ◌≡◌, List, length, get_or}

-- the label of command k + 1 stands at k
pub record LabelsOf (lab : ℕ → ℕ) (labels : List ℕ) : Type 0 where
  pub many : length labels ≡ 24
  pub each : (k : ℕ) → k < 24 → get_or labels k 0 ≡ lab (k + 1)
