-- `every` counts no more cases than it has put.
use Rattle.std.proofs.Common.{◌≤◌}
use Rattle.cases_report.proofs.printing.every.Given as goal

abbrev pub invariant-loop-i : goal.invariant-loop-i
invariant-loop-i g l = goal.F-IsAlwaysCallable g l.put × (l.agree ≤ l.i)
