-- `conjugacy_settling::settle` meets its contract. The loop's invariant: the rounds done lead to the letters that are
-- up and then those that were low, and the rounds left lead on from there. The measure is the room left for the letters
-- that they cycle. Assumes nothing.
use Prim.Native.Nat.{◌-◌}
use lib.ListN.{length}
use Rattle.conjugacy_settling.specs.SettlingLaws.{Rounds}
use Rattle.conjugacy_settling.proofs.settle.Given as goal

abbrev pub invariant-loop-lower : goal.invariant-loop-lower
invariant-loop-lower l =
    Rounds l.initial.word l.apex l.conflicts l.initial.high l.initial.cycled l.at l.word l.raised l.lower l.high l.upper l.cycled l.end l.rounds

abbrev pub decreases-loop-lower : goal.decreases-loop-lower
decreases-loop-lower l =
    length l.initial.cycled - l.end
