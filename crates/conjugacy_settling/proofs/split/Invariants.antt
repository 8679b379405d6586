-- `conjugacy_settling::split` meets its contract. The loop's invariant: the letters passed are split, and those from
-- place `i` on are where they were. Assumes nothing.
use Rattle.conjugacy_settling.specs.HalvingLaws.{Halving}
use Rattle.conjugacy_settling.proofs.split.Given as goal

abbrev pub invariant-loop-i : goal.invariant-loop-i
invariant-loop-i l =
    Halving l.initial.word l.apex l.conflicts l.initial.raised l.initial.high l.from l.word l.raised l.high l.ends l.i
