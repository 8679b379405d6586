-- 24 numbers, one for each command, gathered as the bits of one number.
use Rattle.std.specs.Prelude.{ℕ, ◌/◌, ◌%◌, ◌^◌, ◌<◌, ◌≤◌, ◌≡◌, List, ◌↔◌, get_or}

-- bit k of the number n is set
abbrev pub Bit : ℕ → ℕ → Type 0
Bit n k = n / 2 ^ k % 2 ≡ 1

-- k is one of the indices 0 to 23, and the number there is from low to high
abbrev pub Within : ℕ → ℕ → List ℕ → ℕ → Type 0
Within low high s k = (k < 24) × (low ≤ get_or s k 0) × (get_or s k 0 ≤ high)

-- n gathers the 24 numbers of s: bit k of n is set exactly if the number at index k is from low to high
pub record Gathered (low high : ℕ) (s : List ℕ) (n : ℕ) : Type 0 where
  pub bit : (k : ℕ) → Bit n k ↔ Within low high s k
