-- `random_plan` turns at a place that it has passed.
use Rattle.std.proofs.Common.{◌≤◌}
use Rattle.cases_random.proofs.plan.random_plan.Given as goal

abbrev pub invariant-loop-i : goal.invariant-loop-i
invariant-loop-i l = l.turn ≤ 1024
