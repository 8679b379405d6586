-- The parts of the first core are counted, and then those of the second. Assumes nothing.
use Prim.Native.Nat.{◌+◌, ◌-◌}
use native.Mathlib.Omega.{arith}
use Rattle.conjugacy_rounds.specs.Apexes.{apexes_from}
use Rattle.conjugacy_of_cores.specs.CountLaws.{both_counted}
use Rattle.conjugacy_of_cores.specs.GroupsLaws.{groups_first, groups_second}
use Rattle.conjugacy_of_cores.proofs.rest_rounds.Goals as goal

pub group_rounds-requires : goal.group_rounds-requires
group_rounds-requires c =
    let (l, (k, x, y, g, h)) = c.requires in
    (omega arith, (k, y, groups_second h g c.group_rounds-most.auto.row))

pub returns : goal.returns
returns c =
    let s = c.args in
    λ k x y g h.
    both_counted k x y
    (apexes_from s.parts.now.flags s.parts.now.labels (24 - (s.k + 1)) (s.k + 1))
    (c.group_rounds-most.ensures k x (groups_first h g))
    (c.group_rounds.ensures k y (groups_second h g c.group_rounds-most.auto.row))
