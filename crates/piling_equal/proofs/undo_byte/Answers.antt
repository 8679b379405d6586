-- `piling_equal::undo_byte` meets its contract.
use native.Mathlib.Omega.{arith}
use Rattle.piling_stacks.specs.PilingLaws.{still_ready}
use Rattle.piling_equal.specs.ComparingLaws.{undoable_range, undoable_facing, filler_undone, cut_undone}
use Rattle.piling_equal.specs.ComparingLaws.{put_undone}
use Rattle.piling_equal.proofs.undo_byte.Goals as goal

pub returns-then-byte-eq0 : goal.returns-then-byte-eq0
returns-then-byte-eq0 c = λ k z u. filler_undone u c.if-byte-eq0.true

pub overflow_sub-k : goal.overflow_sub-k
overflow_sub-k c = omega (arith, undoable_range c.requires.2 c.if-byte-eq0.false)

pub bounds-conflicts-k : goal.bounds-conflicts-k
bounds-conflicts-k c = omega (arith, undoable_range c.requires.2 c.if-byte-eq0.false)

pub opposite-letter-requires : goal.opposite-letter-requires
opposite-letter-requires c = omega (arith, undoable_range c.requires.2 c.if-byte-eq0.false)

pub cancel-requires : goal.cancel-requires
cancel-requires c =
    let (k, z, u) = c.requires in
    (k, z, undoable_facing u c.if-byte-eq0.false c.opposite-letter.ensures)

pub returns-then-cancel : goal.returns-then-cancel
returns-then-cancel c = λ k z u.
    let n = c.if-byte-eq0.false in
    let e = c.opposite-letter.ensures in
    let told = c.cancel.ensures k z (undoable_facing u n e) in
    let (f, q) = told.gone c.if-cancel.true in
    cut_undone k _ _ z e n f q (told.newest c.if-cancel.true)

pub returns-then-spare-lt2 : goal.returns-then-spare-lt2
returns-then-spare-lt2 c = λ k z u.
    let n = c.if-byte-eq0.false in
    let e = c.opposite-letter.ensures in
    let (f, q) = (c.cancel.ensures k z (undoable_facing u n e)).none c.if-cancel.false in
    put_undone k _ _ z e n f (λ l. absurd (omega arith))

pub put-requires : goal.put-requires
put-requires c =
    let (k, z, u) = c.requires in
    let g = undoable_facing u c.if-byte-eq0.false c.opposite-letter.ensures in
    let (f, q) = (c.cancel.ensures k z g).none c.if-cancel.false in
    (k, z, still_ready (omega (arith, u.room)) g q)

pub returns : goal.returns
returns c = λ k z u.
    let n = c.if-byte-eq0.false in
    let e = c.opposite-letter.ensures in
    let g = undoable_facing u n e in
    let (f, q) = (c.cancel.ensures k z g).none c.if-cancel.false in
    put_undone k _ _ z e n f (λ l. c.put.ensures k z (still_ready (omega (arith, u.room)) g q))
