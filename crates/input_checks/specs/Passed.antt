-- A plan that has passed its checks.
use Rattle.std.specs.Prelude.{ℕ, ◌≤◌, List, length}
use Rattle.spec.specs.Catalogue.{commands}
use Rattle.input_chains.specs.Conflicts.{Conflicts}
use Rattle.spec.specs.Plan.{Passing}

-- the table holds the conflicts of catalogue c, and the plan passes lines 7 and 8
pub record Passed (c : List ℕ) (conflicts : List (List ℕ)) (plan : List ℕ) : Type 0 where
  pub few : commands c ≤ 24
  pub table : Conflicts c conflicts
  pub passing : Passing (commands c) plan
  pub short : length plan ≤ 1024
