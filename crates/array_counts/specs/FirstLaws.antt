-- The search for the first number below 24 that passes a test: none below k does.
use Rattle.std.specs.Prelude.{ℕ, ◌+◌, ◌<◌, ◌≤◌}
use Rattle.std.proofs.Common.{arith, below_more}
use Rattle.array_counts.specs.First.{NoneBelow, FirstWith}

pub none_start : (P : ℕ → Type 0) → NoneBelow P 0
none_start P = record { within = omega arith; none = λ i l. absurd (omega arith) }

module _ {P : ℕ → Type 0} {k : ℕ} (p : NoneBelow P k) where
  pub none_again : k < 24 → (P k → ⊥) → NoneBelow P (k + 1)
  none_again l n = record { within = omega arith; none = below_more _ _ p.none n }

  pub first_found : k < 24 → P k → FirstWith P k
  first_found l h = record { within = omega arith; before = p.none; found = λ o. h }

  pub first-none : 24 ≤ k → FirstWith P 24
  first-none h = record {
    within = omega arith;
    before = λ i l. p.none i (omega arith);
    found = λ o. absurd (omega arith);
  }
