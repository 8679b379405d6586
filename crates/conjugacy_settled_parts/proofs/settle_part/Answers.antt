-- `conjugacy_settled_parts::settle_part` meets its contract: the part copied can be settled. Assumes nothing.
use native.Mathlib.Omega.{arith}
use Rattle.array_row.specs.AreaLaws.{starts_take, starts_count}
use Rattle.conjugacy_settled_parts.specs.PartOfLaws.{part_fits, part_settleable, part_settled}
use Rattle.conjugacy_settled_parts.proofs.settle_part.Goals as goal

pub append-n-requires : goal.append-n-requires
append-n-requires c =
    let ((k, x, h), l) = c.requires in
    omega (arith, part_fits h c.row-letters.ensures)

pub settle-settled-requires : goal.settle-settled-requires
settle-settled-requires c =
    let ((k, x, h), l) = c.requires in
    (k, part_settleable h (starts_take c.append-n.ensures) l)

pub returns : goal.returns
returns c =
    let d = c.append-n.ensures in
    λ k x h.
    part_settled h (starts_take d) (starts_count d)
    (c.settle-settled.ensures k (part_settleable h (starts_take d) c.requires.1))
