-- What the loop of `long_read::read_off` keeps: l letters are written, and the stacks are those of the word that is
-- left. The measure is what is left of the area.
use Rattle.std.proofs.Common.{◌-◌, length}
use Rattle.long_read.specs.ReadLaws.{Underway}
use Rattle.long_read.proofs.read_off.Given as goal

abbrev pub invariant-loop-k : goal.invariant-loop-k
invariant-loop-k g l = Underway l.conflicts l.word l.initial.stacks l.initial.area l.stacks l.area l.l l.start

abbrev pub decreases-loop-k : goal.decreases-loop-k
decreases-loop-k g l = length l.initial.area - l.l
