-- `number` is modulo 10,000.
use Rattle.std.proofs.Common.{◌<◌}
use Rattle.cases_table.proofs.line.number.Given as goal

abbrev pub invariant-loop-b : goal.invariant-loop-b
invariant-loop-b l = l.value < 10000
