-- `normal_form` gives at most 62 letters.
use Rattle.std.proofs.Common.{◌≤◌}
use Rattle.cases_solver.proofs.form.normal_form.Given as goal

abbrev pub invariant-loop-k : goal.invariant-loop-k
invariant-loop-k l = l.form.length ≤ 62
