-- What the loop of `long_read::ready` keeps: no stack below i has a letter on top.
use Rattle.array_counts.specs.First.{NoneBelow}
use Rattle.long_stacks.specs.Linked.{LetterOnTop}
use Rattle.long_read.proofs.ready.Given as goal

abbrev pub invariant-loop-i : goal.invariant-loop-i
invariant-loop-i g l = NoneBelow (LetterOnTop l.stacks) l.i
