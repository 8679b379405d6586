-- The goals of `array_row::append` that the check leaves.
use Rattle.std.proofs.Common.{arith}
use Rattle.array_row.specs.RowLaws.{copied_again}
use Rattle.array_row.proofs.append.Goals as goal

pub loop-i-preserved : goal.loop-i-preserved
loop-i-preserved c =
    copied_again c.requires c.loop-i.invariant (omega arith)
