-- What the loop of `schedule_slots::number` keeps: the letters before place i have their slots, and for each command the
-- smallest slot is known that they leave it.
use Rattle.schedule_slots.specs.NumberingLaws.{Numbering}
use Rattle.schedule_slots.proofs.number.Given as goal

abbrev pub invariant-loop-i : goal.invariant-loop-i
invariant-loop-i l = Numbering l.word l.conflicts l.initial.slots l.slots l.left l.in_use l.i
