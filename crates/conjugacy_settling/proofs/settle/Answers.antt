-- `conjugacy_settling::settle` meets its contract. The loop's invariant: the rounds done lead to the letters that are
-- up and then those that were low, and the rounds left lead on from there. The measure is the room left for the letters
-- that they cycle. Assumes nothing.
use native.Mathlib.Omega.{arith}
use Rattle.std.proofs.Common.{◌<◌}
use lib.ListN.{drop}
use borrow.Author.Rules.{rules}
use Rattle.conjugacy_settling.specs.SettlingLaws.{rounds_start, rounds_count, rounds_lows, rounds_done, rounds_again}
use Rattle.conjugacy_settling.proofs.settle.Goals as goal

pub loop-lower-init : goal.loop-lower-init
loop-lower-init c = rounds_start c.none-raised.ensures

pub returns-then-lower-eq0 : goal.returns-then-lower-eq0
returns-then-lower-eq0 c = rounds_done c.loop-lower.invariant c.split-ends.ensures (omega arith)

-- in each answer below: the letters of the word that are not split again stand from place `lower` on
pub slice_bounds-append-end : goal.slice_bounds-append-end
slice_bounds-append-end c =
    let l = c.loop-lower in
    let p = rounds_lows l.invariant c.split-ends.ensures c.requires.1 (drop l.lower l.word) in
    p.fits

pub slice_bounds-append-end-in-loop-lower : goal.slice_bounds-append-end-in-loop-lower
slice_bounds-append-end-in-loop-lower c =
    let l = c.loop-lower in
    let p = rounds_lows l.invariant c.split-ends.ensures c.requires.1 (drop l.lower l.word) in
    p.many

pub append-end-requires : goal.append-end-requires
append-end-requires c =
    let l = c.loop-lower in
    let some : 0 < c.split-ends.result.low = omega arith in
    let p = rounds_lows l.invariant c.split-ends.ensures c.requires.1 (drop l.lower l.word) in
    omega (arith, p.many, p.room some)

pub loop-lower-smaller : goal.loop-lower-smaller
loop-lower-smaller c =
    let l = c.loop-lower in
    let some : 0 < c.split-ends.result.low = omega arith in
    let p = rounds_lows l.invariant c.split-ends.ensures c.requires.1 (drop l.lower l.word) in
    omega (arith, p.many, p.room some, l.invariant.same_out, c.append-end.ensures.ends)

pub loop-lower-preserved : goal.loop-lower-preserved
loop-lower-preserved c =
    let l = c.loop-lower in
    let s = c.split-ends in
    let some : 0 < s.result.low = omega arith in
    let n = rounds_count l.invariant s.ensures c.requires.1 in
    rounds_again l.invariant s.ensures (drop l.lower l.word) some (search rules) (search rules) (search rules) n
    c.append-end.ensures
