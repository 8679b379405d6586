-- `pairs` has found no more pairs than it has read bytes.
use Rattle.std.proofs.Common.{◌≤◌}
use Rattle.cases_solver.proofs.pairing.pairs.Given as goal

abbrev pub invariant-loop-i : goal.invariant-loop-i
invariant-loop-i l = l.n ≤ l.i
