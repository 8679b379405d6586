-- `conjugacy_rounds::group_rounds` meets its contract. The loop's invariant: the larger of what is found and what the
-- parts that are left need is what is asked. Assumes nothing.
use Rattle.conjugacy_rounds.specs.CountingLaws.{Counting}
use Rattle.conjugacy_rounds.proofs.group_rounds.Given as goal

abbrev pub invariant-loop-j : goal.invariant-loop-j
invariant-loop-j l =
    Counting l.conflicts l.group.word.now l.group.starts.now l.parts.flags l.parts.labels l.k l.most l.initial.row l.at l.row l.found l.j
