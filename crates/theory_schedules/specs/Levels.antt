-- Numberings of the places 0 to n - 1, where some must have a larger number than certain earlier ones: D i j says that
-- place j must have one than place i, if i is earlier.
use Rattle.std.specs.Prelude.{ℕ, suc, ◌<◌, ◌≡◌, ◌⊎◌}

module _ (D : ℕ → ℕ → Type 0) where
  -- the number of place j is 0, or one more than that of an earlier place that must have a smaller one
  abbrev pub TightAt : (ℕ → ℕ) → ℕ → Type 0
  TightAt f j = (f j ≡ 0) ⊎ ((i : ℕ) × (i < j) × D i j × (f j ≡ suc (f i)))

  module _ (n : ℕ) where
    -- f keeps to D
    abbrev pub Rising : (ℕ → ℕ) → Type 0
    Rising f = (i j : ℕ) → i < j → j < n → D i j → f i < f j

    -- no number is larger than it must be
    abbrev pub Tight : (ℕ → ℕ) → Type 0
    Tight f = (j : ℕ) → j < n → TightAt f j
