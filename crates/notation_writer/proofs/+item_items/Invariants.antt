-- The cycle of calls {item, items}. A group is read one bracket deeper, so `item` has the measure 2 * nesting and
-- `items` 2 * nesting + 1. The loop's invariant: what the sequence says up to the place reached is written out; its own
-- measure is what is left of the text.
use Rattle.std.proofs.Common.{◌+◌, ◌*◌, ◌-◌, ◌≤◌, length}
use Rattle.notation_writer.specs.Writing.{Room, WrotePart}
use Rattle.notation_writer.proofs.+item_items.Given as goal

abbrev pub decreases-item : goal.decreases-item
decreases-item l = 2 * l.nesting

abbrev pub decreases-items : goal.decreases-items
decreases-items l = 2 * l.nesting + 1

abbrev pub invariant-items-loop-area : goal.invariant-items-loop-area
invariant-items-loop-area l = record {
  written : (m : Room l.text l.at l.nesting l.initial.area l.to)
      → WrotePart l.text l.at l.nesting l.initial.area l.to m l.area l.reached;
  onward : l.at ≤ l.reached.at;
}

abbrev pub decreases-items-loop-area : goal.decreases-items-loop-area
decreases-items-loop-area l = length l.text - l.reached.at
