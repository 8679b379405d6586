-- `conjugacy_commands::occurring` meets its contract. The loop's invariant: the flags tell of the letters before this
-- one. Assumes nothing.
use Rattle.conjugacy_commands.specs.SeenLaws.{Seen}
use Rattle.conjugacy_commands.proofs.occurring.Given as goal

abbrev pub invariant-loop-letter : goal.invariant-loop-letter
invariant-loop-letter l = Seen l.word l.flags l.letter-index
