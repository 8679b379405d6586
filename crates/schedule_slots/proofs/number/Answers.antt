-- `schedule_slots::number` meets its contract: what the laws of numbering say at the start, at a letter and at the end.
use Rattle.std.proofs.Common.{arith}
use Rattle.schedule_slots.specs.NumberingLaws.{numbering_start, numbering_again, numbering_end}
use Rattle.schedule_slots.proofs.number.Goals as goal

pub loop-i-init : goal.loop-i-init
loop-i-init c = numbering_start c.blank_heights-left.ensures

pub loop-i-preserved : goal.loop-i-preserved
loop-i-preserved c =
    numbering_again c.requires.1 (omega arith) c.loop-i.invariant c.raise.ensures c.larger-in_use.ensures

pub returns : goal.returns
returns c = numbering_end c.loop-i.invariant (omega arith)
