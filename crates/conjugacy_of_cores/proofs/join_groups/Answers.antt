-- Both cores are grouped; where the grouped words are the same the cores are joined by nothing, and else the parts
-- decide. Assumes nothing.
use native.Mathlib.Omega.{arith}
use Rattle.conjugacy_of_cores.specs.CountLaws.{joinable_first, same_counted}
use Rattle.conjugacy_of_cores.specs.CoreLaws.{cores_outcome}
use Rattle.conjugacy_of_cores.specs.ConjugatorLaws.{cores_same}
use Rattle.conjugacy_of_cores.specs.GroupsLaws.{joinable_coreable, first_groupable, second_groupable}
use Rattle.conjugacy_of_cores.specs.GroupsLaws.{groups_first, groups_same}
use Rattle.conjugacy_of_cores.proofs.join_groups.Goals as goal

pub group-starts1-requires : goal.group-starts1-requires
group-starts1-requires c =
    let (k, h) = c.requires in
    (k, first_groupable h c.row-word1.ensures)

pub group-starts2-requires : goal.group-starts2-requires
group-starts2-requires c =
    let (k, h) = c.requires in
    (k, second_groupable h c.row-word2.ensures)

pub group_rounds-count-requires : goal.group_rounds-count-requires
group_rounds-count-requires c =
    let (k, h) = c.requires in
    let one = c.group-starts1.ensures k (first_groupable h c.row-word1.ensures) in
    let two = c.group-starts2.ensures k (second_groupable h c.row-word2.ensures) in
    (omega arith, (k, _, groups_first h (record { first = one; second = two })))

pub returns-then-same_bytes : goal.returns-then-same_bytes
returns-then-same_bytes c =
    λ k h.
    let one = c.group-starts1.ensures k (first_groupable h c.row-word1.ensures) in
    let two = c.group-starts2.ensures k (second_groupable h c.row-word2.ensures) in
    let e = groups_same h (record { first = one; second = two }) (c.same_bytes.ensures.0 c.if-same_bytes.true) in
    let n = c.group_rounds-count.ensures k _ (groups_first h (record { first = one; second = two })) in
    (cores_same h.flagged.two.first e n.kept, same_counted (joinable_first h) n e)

pub join_parts-requires : goal.join_parts-requires
join_parts-requires c =
    let (k, h) = c.requires in
    let one = c.group-starts1.ensures k (first_groupable h c.row-word1.ensures) in
    let two = c.group-starts2.ensures k (second_groupable h c.row-word2.ensures) in
    (k, _, _, record { first = one; second = two }, h)

pub returns : goal.returns
returns c =
    let j = c.join_parts in
    λ k h.
    let one = c.group-starts1.ensures k (first_groupable h c.row-word1.ensures) in
    let two = c.group-starts2.ensures k (second_groupable h c.row-word2.ensures) in
    cores_outcome (joinable_coreable h) h.flagged.two.same j.new.row j.result
    (j.ensures k _ _ (record { first = one; second = two }) h)
