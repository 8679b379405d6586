-- The pairs as they are written to an area, and the pairs of a whole plan.
use Rattle.std.specs.Prelude.{ℕ, ◌+◌, ◌*◌, ◌≡◌, List, ◌++◌, length, drop, set}
use Rattle.std.proofs.Math.Option.{Option, none, some}
use Rattle.spec.specs.Pairs.{reading, pair_numbers}

-- behind n pairs: nothing, or one pair more
pub data Noted (before : List ℕ) (n later : ℕ) : Option ℕ → List ℕ → ℕ → Type 0 where
  nothing : Noted before n later none before n
  one : {earlier : ℕ} → Noted before n later (some earlier) (set (set before (2 * n) earlier) (2 * n + 1) later) (n + 1)

-- an area now starts with the n pairs of a plan, and past them it is as it was
pub record PairsOf (c plan before after : List ℕ) (n : ℕ) : Type 0 where
  pub count : n ≡ length (reading c plan).pairs
  pub numbers : after ≡ pair_numbers c plan ++ drop (length (pair_numbers c plan)) before
