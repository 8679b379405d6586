-- The goals of `array_row::undo_between` that the check leaves.
use Rattle.std.proofs.Common.{arith}
use Rattle.array_row.specs.UndoLaws.{turning_start, turning_again}
use Rattle.array_row.proofs.undo_between.Goals as goal

pub loop-i-init : goal.loop-i-init
loop-i-init c =
    turning_start c.args.row.now c.args.from c.args.to c.requires.0 c.requires.1

pub loop-i-preserved : goal.loop-i-preserved
loop-i-preserved c =
    rw (c.undo-a.ensures, c.undo.ensures)
    (turning_again c.loop-i.invariant (omega arith))
