-- `conjugacy_ring::ring_of` meets its contract: the settled part is lent for its normal form. Assumes nothing.
use native.Mathlib.Omega.{arith}
use Rattle.conjugacy_settled_parts.specs.PartOfLaws.{part_fits}
use Rattle.conjugacy_ring.specs.RingLaws.{lent_count, lent_fits, lent_cyclic, lent_short, lent_rung}
use Rattle.conjugacy_ring.proofs.ring_of.Goals as goal

pub settle_part-ends-requires : goal.settle_part-ends-requires
settle_part-ends-requires c =
    let ((k, x, h), l) = c.requires in
    ((k, x, h), part_fits h c.row-word.ensures)

pub slice_bounds-word-end : goal.slice_bounds-word-end
slice_bounds-word-end c =
    let ((k, x, h), l) = c.requires in
    lent_fits h (c.settle_part-ends.ensures k x h)

pub slice_bounds-sorted-end : goal.slice_bounds-sorted-end
slice_bounds-sorted-end c =
    let ((k, x, h), l) = c.requires in
    lent_count h (c.settle_part-ends.ensures k x h)

pub sorted-letters-requires : goal.sorted-letters-requires
sorted-letters-requires c =
    let ((k, x, h), l) = c.requires in
    let s = c.settle_part-ends.ensures k x h in
    ((k, lent_cyclic h s), omega (arith, l, lent_short h s))

pub returns : goal.returns
returns c =
    λ k x h.
    let s = c.settle_part-ends.ensures k x h in
    lent_rung h s (c.sorted-letters.ensures k (lent_cyclic h s))
