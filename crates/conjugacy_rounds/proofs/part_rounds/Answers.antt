-- `conjugacy_rounds::part_rounds` meets its contract: the number is what settling the part took. Assumes nothing.
use Rattle.conjugacy_settled_parts.specs.PartOfLaws.{part_fits}
use Rattle.conjugacy_rounds.specs.CountingLaws.{counts_settled}
use Rattle.conjugacy_rounds.proofs.part_rounds.Goals as goal

pub settle_part-ends-requires : goal.settle_part-ends-requires
settle_part-ends-requires c =
    let (k, x, h) = c.requires in
    ((k, x, h), part_fits h c.row-word.ensures)

-- the number handed back is what settling took,
-- and not one more

pub returns : goal.returns
returns c = λ k x h. counts_settled h (c.settle_part-ends.ensures k x h)
