-- Both rings can be found, and the way from ring to ring is the lead-in of the part; the rounds are those of both.
-- Assumes nothing.
use Rattle.conjugacy_settled_parts.specs.PartOfLaws.{part_fits}
use Rattle.conjugacy_of_parts.specs.PartLaws.{rung_count, rung_fits, part_first, part_second}
use Rattle.conjugacy_of_parts.specs.PartLaws.{rings_room, way_cycled, part_outcome}
use Rattle.conjugacy_of_parts.proofs.join_part.Goals as goal

pub ring_of-one-requires : goal.ring_of-one-requires
ring_of-one-requires c =
    let (k, x, y, h) = c.requires in
    ((k, x, part_first h), part_fits (part_first h) c.row-ring.ensures)

pub ring_of-two-requires : goal.ring_of-two-requires
ring_of-two-requires c =
    let (k, x, y, h) = c.requires in
    let one = c.ring_of-one.ensures k x (part_first h) in
    let asked = part_second h one c.ring_of-one.auto.cycled in
    ((k, y, asked), part_fits asked c.row-other.ensures)

pub slice_bounds-other-end : goal.slice_bounds-other-end
slice_bounds-other-end c =
    let (k, x, y, h) = c.requires in
    let one = c.ring_of-one.ensures k x (part_first h) in
    rung_fits (c.ring_of-two.ensures k y (part_second h one c.ring_of-one.auto.cycled))

pub slice_bounds-join_rings-end-2 : goal.slice_bounds-join_rings-end-2
slice_bounds-join_rings-end-2 c =
    let (k, x, y, h) = c.requires in
    let one = c.ring_of-one.ensures k x (part_first h) in
    rung_count (c.ring_of-two.ensures k y (part_second h one c.ring_of-one.auto.cycled))

pub join_rings-end-requires : goal.join_rings-end-requires
join_rings-end-requires c =
    let (k, x, y, h) = c.requires in
    let m = c.ring_of-one.auto.cycled in
    let one = c.ring_of-one.ensures k x (part_first h) in
    let two = c.ring_of-two.ensures k y (part_second h one m) in
    rings_room h one m two c.ring_of-two.auto.cycled

pub returns : goal.returns
returns c =
    let m = c.ring_of-one.auto.cycled in
    let n = c.ring_of-two.auto.cycled in
    λ k x y h.
    let one = c.ring_of-one.ensures k x (part_first h) in
    let two = c.ring_of-two.ensures k y (part_second h one m) in
    part_outcome h one m two n c.join_rings-end.new.row c.larger.ensures c.join_rings-end.result
    (c.join_rings-end.ensures k _ (way_cycled h one m two n))
