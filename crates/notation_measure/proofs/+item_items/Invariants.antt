-- The cycle of calls {item, items}. `item` calls `items` one bracket deeper, and `items` calls `item` as deep as it is,
-- so its measure lies between: twice the nesting for `item`, one more for `items`. The loop's invariant: the measure is
-- that of the parts passed; its own measure is what is left of the text.
use Rattle.std.proofs.Common.{◌+◌, ◌*◌, ◌-◌, length}
use Rattle.notation_measure.specs.SofarLaws.{Sofar}
use Rattle.notation_measure.proofs.+item_items.Given as goal

abbrev pub decreases-item : goal.decreases-item
decreases-item l = 2 * l.nesting

abbrev pub decreases-items : goal.decreases-items
decreases-items l = 2 * l.nesting + 1

abbrev pub invariant-items-loop-all : goal.invariant-items-loop-all
invariant-items-loop-all l = Sofar l.commands l.text l.at l.nesting l.all

abbrev pub decreases-items-loop-all : goal.decreases-items-loop-all
decreases-items-loop-all l = length l.text - l.all.end
