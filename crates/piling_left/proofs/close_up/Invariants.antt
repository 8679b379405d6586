-- `piling_left::close_up` meets its contract. The loop's invariant: the letters of the first i bytes stand in front.
use Rattle.piling_left.specs.CloseLaws.{Closing}
use Rattle.piling_left.proofs.close_up.Given as goal

abbrev pub invariant-loop-i : goal.invariant-loop-i
invariant-loop-i l = Closing l.initial.word l.word l.n l.i
