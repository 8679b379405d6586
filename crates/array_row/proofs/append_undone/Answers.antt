-- The goals of `array_row::append_undone` that the check leaves.
use Rattle.std.proofs.Common.{arith}
use Rattle.array_row.specs.RowLaws.{undoing_again}
use Rattle.array_row.proofs.append_undone.Goals as goal

pub loop-n-preserved : goal.loop-n-preserved
loop-n-preserved c =
    rw c.undo.ensures (undoing_again c.requires c.loop-n.invariant (omega arith))
