-- `diagonal` marks the rows' diagonal. The loop's invariant: it is marked below i.
use Rattle.std.specs.Prelude.{refl}
use Rattle.input_conflicts.specs.MarkedRows.{diagonal}
use Rattle.input_conflicts.specs.MarkedRowsLaws.{diagonal_more}
use Rattle.input_conflicts.proofs.diagonal.Goals as goal

pub loop-i-init : goal.loop-i-init
unfolding diagonal
loop-i-init c = refl

pub loop-i-preserved : goal.loop-i-preserved
loop-i-preserved c = diagonal_more c.args.rows.now c.loop-i.i c.loop-i.invariant
