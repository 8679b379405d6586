-- A command that is no apex adds nothing; one that is has a part that can be joined, a slice of either grouped core.
-- Assumes nothing.
use mathlib.Core.Path.{sym, ◌∙◌}
use mathlib.Core.Bool.{true≢false}
use Rattle.conjugacy_of_cores.specs.PlaceLaws.{place_none, place_partable, place_outcome}
use Rattle.conjugacy_of_cores.proofs.join_at.Goals as goal

pub returns-then-not-is_apex : goal.returns-then-not-is_apex
returns-then-not-is_apex c =
    λ k x y g h. place_none h (λ a. true≢false (sym (c.is_apex.ensures.1 a) ∙ c.if-not-is_apex.true))

pub join_part-requires : goal.join_part-requires
join_part-requires c =
    let (l, (k, x, y, g, h)) = c.requires in
    (k, x, y, place_partable h l (c.is_apex.ensures.0 c.if-not-is_apex.false) g)

pub returns : goal.returns
returns c =
    let l = c.requires.0 in
    let apex = c.is_apex.ensures.0 c.if-not-is_apex.false in
    λ k x y g h. place_outcome h l apex c.join_part.new.row c.join_part.result
    (c.join_part.ensures k x y (place_partable h l apex g))
