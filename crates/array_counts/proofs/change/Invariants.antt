-- What the loop of `array_counts::change` keeps: below i the numbers are changed, from i on they are as they were.
use Rattle.array_counts.specs.HeightsLaws.{Changing}
use Rattle.array_counts.proofs.change.Given as goal

abbrev pub invariant-loop-i : goal.invariant-loop-i
invariant-loop-i g l = Changing (goal.F-post g l.op) l.line l.initial.numbers l.numbers l.i
