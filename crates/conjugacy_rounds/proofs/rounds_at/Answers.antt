-- `conjugacy_rounds::rounds_at` meets its contract: a command that is no apex adds no part, and the part of one that is
-- is a slice of the grouped core. Assumes nothing.
use Rattle.std.proofs.Common.{sym, ◌∙◌}
use mathlib.Core.Bool.{true≢false}
use native.Mathlib.Omega.{arith}
use Rattle.conjugacy_parts.specs.GroupedLaws.{starts_rising}
use Rattle.conjugacy_rounds.specs.ApexesLaws.{apex_none}
use Rattle.conjugacy_rounds.specs.CountingLaws.{counts_none, group_apex, group_counts}
use Rattle.conjugacy_rounds.proofs.rounds_at.Goals as goal

pub returns-then-not-is_apex : goal.returns-then-not-is_apex
returns-then-not-is_apex c =
    λ k x h. counts_none (apex_none _ _ _ (λ a. true≢false (sym (c.is_apex.ensures.1 a) ∙ c.if-not-is_apex.true)))

pub slice_bounds-apex_rounds-count : goal.slice_bounds-apex_rounds-count
slice_bounds-apex_rounds-count c =
    let (l, (k, x, h)) = c.requires in
    starts_rising h.grouped _ _ (omega arith) (omega arith)

pub apex_rounds-requires : goal.apex_rounds-requires
apex_rounds-requires c =
    let (l, (k, x, h)) = c.requires in
    let apex = c.is_apex.ensures.0 c.if-not-is_apex.false in
    (l, (k, x, group_apex h l apex))

pub returns : goal.returns
returns c =
    let l = c.requires.0 in
    let apex = c.is_apex.ensures.0 c.if-not-is_apex.false in
    λ k x h. group_counts h l apex (c.apex_rounds.ensures k x (group_apex h l apex))
