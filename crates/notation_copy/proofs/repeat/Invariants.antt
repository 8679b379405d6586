-- `notation_copy::repeat` meets its contract. The loop's invariant: the first n copies stand.
use Rattle.std.proofs.Common.{◌-◌}
use Rattle.notation_copy.specs.RepeatLaws.{Repeating}
use Rattle.notation_copy.proofs.repeat.Given as goal

abbrev pub invariant-loop-n : goal.invariant-loop-n
invariant-loop-n l = Repeating l.initial.area l.from l.to l.count l.area l.n

abbrev pub decreases-loop-n : goal.decreases-loop-n
decreases-loop-n l = l.count - l.n
