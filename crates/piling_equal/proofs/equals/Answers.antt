-- `piling_equal::equals` meets its contract: with letters left for bytes that are none, or more letters than bytes, no
-- word of the bytes is that piled up; where all bytes are undone nothing is left.
use Rattle.piling_equal.specs.ComparingLaws.{tells, tells_not, undoing_many, undoing_start, undoing_rest}
use Rattle.piling_equal.specs.ComparingLaws.{undoing_undoable, undoing_again, undoing_over, undoing_end}
use Rattle.piling_equal.proofs.equals.Goals as goal

pub returns-then-w-n : goal.returns-then-w-n
returns-then-w-n c = λ k z o. tells_not (undoing_many c.if-w-n.true k z o)

pub loop-byte-init : goal.loop-byte-init
loop-byte-init c =
    rw (c.into_iter-byte-iterator.ensures.into_iter_gives, c.rev-byte-items.ensures.source, c.iter.ensures.rest)
    (undoing_start c.if-w-n.false)

pub undo_byte-spent-requires : goal.undo_byte-spent-requires
undo_byte-spent-requires c =
    let (k, z, o) = c.requires in
    let p = c.loop-byte.invariant in
    (k, (undoing_rest _ _ p c.in-Some.ensures.steps o).word, undoing_undoable _ _ p c.in-Some.ensures.steps o)

pub returns-then-spare-spent : goal.returns-then-spare-spent
returns-then-spare-spent c = λ k z o.
    tells_not
    (undoing_over _ _ c.loop-byte.invariant c.in-Some.ensures.steps c.undo_byte-spent.ensures c.if-spare-spent.true k z o)

pub loop-byte-preserved : goal.loop-byte-preserved
loop-byte-preserved c =
    undoing_again _ _ c.loop-byte.invariant c.in-Some.ensures.steps c.undo_byte-spent.ensures c.if-spare-spent.false

pub returns : goal.returns
returns c = λ k z o. tells (undoing_end c.in-None.ensures.steps.0 c.loop-byte.invariant k z o)
