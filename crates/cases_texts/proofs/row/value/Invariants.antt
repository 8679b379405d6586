-- `value` is at most 9,999.
use Rattle.std.proofs.Common.{◌≤◌}
use Rattle.cases_texts.proofs.row.value.Given as goal

abbrev pub invariant-loop-b : goal.invariant-loop-b
invariant-loop-b l = l.value ≤ 9999
