-- The first of the numbers below 24 that passes a test.
use Rattle.std.specs.Prelude.{ℕ, ◌<◌, ◌≤◌, Option, None, Some}

module _ (P : ℕ → Type 0) where
  -- no number below k has P
  pub record NoneBelow (k : ℕ) : Type 0 where
    pub within : k ≤ 24
    pub none : (i : ℕ) → i < k → P i → ⊥

  -- k is the first number below 24 that has P, or 24 where none has it
  pub record FirstWith (k : ℕ) : Type 0 where
    pub within : k ≤ 24
    pub before : (i : ℕ) → i < k → P i → ⊥
    pub found : k < 24 → P k

  -- what a search for the first number below 24 that has P gives: that number, or None where none has it
  abbrev pub FirstFound : Option ℕ → Type 0
  FirstFound None = FirstWith 24
  FirstFound (Some k) = (k < 24) × FirstWith k
