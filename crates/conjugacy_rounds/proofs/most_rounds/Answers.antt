-- `conjugacy_rounds::most_rounds` meets its contract: where there is one apex, the core is its part. Assumes nothing.
use Rattle.conjugacy_rounds.specs.CountingLaws.{lone_part, lone_counts}
use Rattle.conjugacy_rounds.proofs.most_rounds.Goals as goal

pub apex_rounds-count-requires : goal.apex_rounds-count-requires
apex_rounds-count-requires c =
    let (k, h) = c.requires in
    let (l, o) = c.in-Some.ensures in
    (l, (k, _, lone_part h l o))

pub returns : goal.returns
returns c =
    let (l, o) = c.in-Some.ensures in
    λ k h. lone_counts h l o (c.apex_rounds-count.ensures k _ (lone_part h l o)) c.larger.ensures
