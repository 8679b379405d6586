-- What the loop of `array_row::undo_between` keeps: what is left between i and j, undone there, is what is to be.
use Rattle.std.proofs.Common.{◌-◌}
use Rattle.array_row.specs.UndoLaws.{Turning, goal_of}
use Rattle.array_row.proofs.undo_between.Given as goal

abbrev pub invariant-loop-i : goal.invariant-loop-i
invariant-loop-i l = Turning (goal_of l.initial.row l.from l.to) l.row l.i l.j

abbrev pub decreases-loop-i : goal.decreases-loop-i
decreases-loop-i l = l.j - l.i
