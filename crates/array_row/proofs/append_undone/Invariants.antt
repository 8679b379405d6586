-- What the loop of `array_row::append_undone` keeps: the last n bytes are appended, backwards and undone.
use Rattle.array_row.specs.RowLaws.{Undoing}
use Rattle.array_row.proofs.append_undone.Given as goal

abbrev pub invariant-loop-n : goal.invariant-loop-n
invariant-loop-n l = Undoing l.initial.row l.at l.word l.row l.n
