-- The sums fit, and each row is as long as the room tested. Assumes nothing.
use native.Mathlib.Omega.{arith}
use Rattle.conjugacy_of_plans.specs.RoomLaws.{cores_all, cores_room, row_asked, row_told}
use Rattle.conjugacy_of_plans.proofs.join_by_cores.Goals as goal

pub overflow_add-need : goal.overflow_add-need
overflow_add-need c = omega (arith, cores_all c.requires.3)

pub overflow_add-need-2 : goal.overflow_add-need-2
overflow_add-need-2 c = omega (arith, cores_all c.requires.3)

pub overflow_add-need-3 : goal.overflow_add-need-3
overflow_add-need-3 c = omega (arith, cores_all c.requires.3)

pub overflow_mul-need-3 : goal.overflow_mul-need-3
overflow_mul-need-3 c =
    let (k, v, w, p, r) = c.requires in
    record { fits = omega (arith, cores_room p r) }

pub join_in-requires : goal.join_in-requires
join_in-requires c = (omega arith, row_asked (omega arith) c.requires)

pub returns-then-need-le2048 : goal.returns-then-need-le2048
returns-then-need-le2048 c = row_told (omega arith) c.join_in.ensures

pub join_in-requires-then-need-le8192 : goal.join_in-requires-then-need-le8192
join_in-requires-then-need-le8192 c = (omega arith, row_asked (omega arith) c.requires)

pub returns-then-need-le8192 : goal.returns-then-need-le8192
returns-then-need-le8192 c = row_told (omega arith) c.join_in-then-need-le8192.ensures

pub join_in-requires-then-need-le24576 : goal.join_in-requires-then-need-le24576
join_in-requires-then-need-le24576 c = (omega arith, row_asked (omega arith) c.requires)

pub returns-then-need-le24576 : goal.returns-then-need-le24576
returns-then-need-le24576 c = row_told (omega arith) c.join_in-then-need-le24576.ensures

pub join_in-requires-2 : goal.join_in-requires-2
join_in-requires-2 c = (omega arith, row_asked (omega (arith, cores_room c.requires.3 c.requires.4)) c.requires)

pub returns : goal.returns
returns c = row_told (omega (arith, cores_room c.requires.3 c.requires.4)) c.join_in-2.ensures
