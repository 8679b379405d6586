-- What the loop of `array_row::append` keeps: the first i bytes of the word are appended.
use Rattle.array_row.specs.RowLaws.{Copied}
use Rattle.array_row.proofs.append.Given as goal

abbrev pub invariant-loop-i : goal.invariant-loop-i
invariant-loop-i l = Copied l.initial.row l.at l.word l.row l.i
