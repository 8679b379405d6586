-- `table` ends, since each line begins behind the one before; of the cases, at most `start`, no more agree than there
-- are.
use Rattle.std.proofs.Common.{◌-◌, ◌≤◌}
use Rattle.cases.proofs.table.Given as goal

abbrev pub invariant-loop-start : goal.invariant-loop-start
invariant-loop-start l = (l.agree ≤ l.cases) × (l.cases ≤ l.start) × (l.start ≤ 16384)

abbrev pub decreases-loop-start : goal.decreases-loop-start
decreases-loop-start l = 16384 - l.start
