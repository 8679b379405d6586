-- `slots` counts no more slots than it has letters.
use Rattle.std.proofs.Common.{◌≤◌}
use Rattle.cases_solver.proofs.slotting.slots.Given as goal

abbrev pub invariant-loop-i : goal.invariant-loop-i
invariant-loop-i l = l.count ≤ l.i
