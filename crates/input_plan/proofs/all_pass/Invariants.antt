-- `input_plan::all_pass` meets its contract. The loop's invariant: what fails of the bytes before b is gathered.
use Rattle.input_plan.specs.FaultLaws.{Gathered}
use Rattle.input_plan.proofs.all_pass.Given as goal

abbrev pub invariant-loop-b : goal.invariant-loop-b
invariant-loop-b l = Gathered l.commands l.plan l.failed l.b-index
