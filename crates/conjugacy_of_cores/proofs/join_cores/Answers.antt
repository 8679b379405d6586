-- Cores that are the same are joined, and those in which other commands occur are apart; their parts are counted with
-- the flags and labels of each. For others the flags and labels are those of both. Assumes nothing.
use mathlib.Core.Path.{sym, ◌∙◌}
use mathlib.Core.Bool.{true≢false}
use Rattle.spec.specs.Letters.{alphabet}
use Rattle.theory_conjugacy.specs.WordLaws.{~_of_≡}
use Rattle.conjugacy_settled_parts.specs.PartOfLaws.{cyclic_lettered}
use Rattle.conjugacy_of_cores.specs.CountLaws.{core_first, core_second, same_counted, cores_counted}
use Rattle.conjugacy_of_cores.specs.CoreLaws.{cores_apart, cores_joinable, cores_outcome}
use Rattle.conjugacy_of_cores.specs.ConjugatorLaws.{cores_same}
use Rattle.conjugacy_of_cores.specs.OneLaws.{lone_partable, lone_outcome}
use Rattle.conjugacy_of_cores.proofs.join_cores.Goals as goal

pub occurring-flags-requires : goal.occurring-flags-requires
occurring-flags-requires c = cyclic_lettered c.requires.1.first

pub occurring-others-requires : goal.occurring-others-requires
occurring-others-requires c = cyclic_lettered c.requires.1.second

-- the cores are the same

pub most_rounds-once-requires : goal.most_rounds-once-requires
most_rounds-once-requires c =
    let (k, h) = c.requires in
    let f = c.occurring-flags.ensures k in
    (k, core_first h f (c.labels-names.ensures k _ h.first.table f))

pub returns-then-same_bytes : goal.returns-then-same_bytes
returns-then-same_bytes c =
    λ k h.
    let e = ~_of_≡ (alphabet k) (c.same_bytes.ensures.0 c.if-same_bytes.true) in
    let f = c.occurring-flags.ensures k in
    let o = core_first h f (c.labels-names.ensures k _ h.first.table f) in
    let n = c.most_rounds-once.ensures k o in
    (cores_same h.first e n.kept, same_counted o n e)

-- other commands occur

pub most_rounds-one-requires : goal.most_rounds-one-requires
most_rounds-one-requires c =
    let (k, h) = c.requires in
    let f = c.occurring-flags.ensures k in
    (k, core_first h f (c.labels-names.ensures k _ h.first.table f))

pub most_rounds-both-requires : goal.most_rounds-both-requires
most_rounds-both-requires c =
    let (k, h) = c.requires in
    let g = c.occurring-others.ensures k in
    (k, core_second h g (c.labels.ensures k _ h.second.table g) c.most_rounds-one.auto.row)

pub returns-then-not-same_commands : goal.returns-then-not-same_commands
returns-then-not-same_commands c =
    λ k h.
    let f = c.occurring-flags.ensures k in
    let g = c.occurring-others.ensures k in
    let o = core_first h f (c.labels-names.ensures k _ h.first.table f) in
    let p = core_second h g (c.labels.ensures k _ h.second.table g) c.most_rounds-one.auto.row in
    let (same, equal) = c.same_commands.ensures _ _ f g in (
      cores_apart h (λ e. true≢false (sym (equal e) ∙ c.if-not-same_commands.true)),
      cores_counted o (c.most_rounds-one.ensures k o) p (c.most_rounds-both.ensures k p),
    )

-- the same commands occur

pub join_groups-requires : goal.join_groups-requires
join_groups-requires c =
    let (k, h) = c.requires in
    let f = c.occurring-flags.ensures k in
    let (same, equal) = c.same_commands.ensures _ _ f (c.occurring-others.ensures k) in
    (k, cores_joinable h (same c.if-not-same_commands.false) f (c.labels-names.ensures k _ h.first.table f))

pub returns-in_default : goal.returns-in_default
returns-in_default c =
    λ k h.
    let f = c.occurring-flags.ensures k in
    let (same, equal) = c.same_commands.ensures _ _ f (c.occurring-others.ensures k) in
    c.join_groups.ensures k
    (cores_joinable h (same c.if-not-same_commands.false) f (c.labels-names.ensures k _ h.first.table f))

pub join_part-requires : goal.join_part-requires
join_part-requires c =
    let (k, h) = c.requires in
    let f = c.occurring-flags.ensures k in
    let (same, equal) = c.same_commands.ensures _ _ f (c.occurring-others.ensures k) in
    let b = cores_joinable h (same c.if-not-same_commands.false) f (c.labels-names.ensures k _ h.first.table f) in
    let (lone, o) = c.in-Some.ensures in
    (k, _, _, lone_partable b lone o)

pub returns : goal.returns
returns c =
    let j = c.join_part in
    let (lone, o) = c.in-Some.ensures in
    λ k h.
    let f = c.occurring-flags.ensures k in
    let (same, equal) = c.same_commands.ensures _ _ f (c.occurring-others.ensures k) in
    let b = cores_joinable h (same c.if-not-same_commands.false) f (c.labels-names.ensures k _ h.first.table f) in
    cores_outcome h b.flagged.two.same j.new.row j.result
    (lone_outcome b lone o j.new.row j.result (j.ensures k _ _ (lone_partable b lone o)))
