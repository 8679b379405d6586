-- `input_plan::all_pass` meets its contract. The loop's invariant: what fails of the bytes before b is gathered.
use Rattle.std.proofs.Common.{arith}
use Rattle.input_plan.specs.FaultLaws.{gathered_again, gathered_end}
use Rattle.input_plan.proofs.all_pass.Goals as goal

pub loop-b-preserved : goal.loop-b-preserved
loop-b-preserved c = gathered_again c.loop-b.invariant c.fails-failed.ensures

pub returns : goal.returns
returns c = gathered_end c.loop-b.invariant (omega arith)
