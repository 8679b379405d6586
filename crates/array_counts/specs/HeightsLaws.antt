-- What the loop that changes heights keeps: the indices below i are changed, the others are as they were.
use Rattle.std.specs.Prelude.{ℕ, zero, suc, ◌*◌, ◌≤◌, ◌<◌, ◌≡◌, List, length, get_or}
use Rattle.std.proofs.Common.{arith}

module _ (R : ℕ → ℕ → ℕ → Type 0) where
  pub record Changing (line first now : List ℕ) (i : ℕ) : Type 0 where
    pub kept : length now ≡ length first
    pub below : (j : ℕ) → j < i → R (get_or first j 0) (get_or line j 0) (get_or now j 0)
    pub above : (j : ℕ) → i ≤ j → get_or now j 0 ≡ get_or first j 0

-- a number taken once at most
pub times_low : (n m : ℕ) → n ≤ 1 → n * m ≤ m
times_low zero m h = omega arith
times_low (suc zero) m h = omega arith
times_low (suc (suc n)) m h = absurd (omega arith)
