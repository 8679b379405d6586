-- `conjugacy_rounds::several_rounds` meets its contract: the core can be grouped in a row of 1,024
-- bytes. Assumes nothing.
use native.Mathlib.Omega.{arith}
use Rattle.conjugacy_rounds.specs.CountingLaws.{core_groupable}
use Rattle.conjugacy_rounds.proofs.several_rounds.Goals as goal

pub group-starts-requires : goal.group-starts-requires
group-starts-requires c =
    let (k, h) = c.requires in
    (k, core_groupable h c.row-word.ensures)

pub group_rounds-requires : goal.group_rounds-requires
group_rounds-requires c =
    let (k, h) = c.requires in
    let g = c.group-starts.ensures k (core_groupable h c.row-word.ensures) in
    (omega arith, (k, _, record { core = h; grouped = g }))

pub returns : goal.returns
returns c =
    λ k h.
    let g = c.group-starts.ensures k (core_groupable h c.row-word.ensures) in
    c.group_rounds.ensures k _ (record { core = h; grouped = g })
