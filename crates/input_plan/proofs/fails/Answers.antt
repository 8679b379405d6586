-- `input_plan::fails` meets its contract: byte 128 and a byte above N, or above 128 + N, do not pass; the others do.
use Rattle.std.proofs.Common.{arith}
use Rattle.input_plan.specs.FaultLaws.{fails_128, fails_other}
use Rattle.input_plan.proofs.fails.Goals as goal

pub returns-then-b-eq128 : goal.returns-then-b-eq128
returns-then-b-eq128 c = fails_128 _ _ c.requires c.if-b-eq128.true

pub returns-else-b-eq128 : goal.returns-else-b-eq128
returns-else-b-eq128 c = fails_other _ _ c.requires (omega arith) c.if-b-eq128.false
