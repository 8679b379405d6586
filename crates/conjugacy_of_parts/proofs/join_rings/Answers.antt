-- The search tells where the rings agree, there is room for the ring up to there, undone, behind the letters cycled,
-- and both undone are the way. Assumes nothing.
use mathlib.Core.List.{[]}
use Rattle.conjugacy_of_parts.specs.TurnLaws.{nowhere_apart, start_found, start_count, start_end, rings_joined}
use Rattle.conjugacy_of_parts.proofs.join_rings.Goals as goal

pub returns-in_err-start : goal.returns-in_err-start
returns-in_err-start c =
    λ k z t. rw c.from_residual.ensures (nowhere_apart k _ _ (c.rotation.ensures k) c.in_err-start.was)

pub slice_bounds-append_undone-end : goal.slice_bounds-append_undone-end
slice_bounds-append_undone-end c =
    let r = c.args.ring.now in
    let o = c.args.other.now in
    start_count [] r o (start_found [] r o (c.rotation.ensures []) c.in_ok-start.was)

pub returns : goal.returns
returns c =
    let r = c.args.ring.now in
    let o = c.args.other.now in
    let a = c.append_undone-end.ensures in
    λ k z t.
    let f = start_found k r o (c.rotation.ensures k) c.in_ok-start.was in
    rings_joined k r o f a c.undo_between.ensures t c.requires.ordered (start_end k r o f c.requires a)
