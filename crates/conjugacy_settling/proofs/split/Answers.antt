-- `conjugacy_settling::split` meets its contract. The loop's invariant: the letters passed are split, and those from
-- place `i` on are where they were. Assumes nothing.
use native.Mathlib.Omega.{arith}
use Rattle.conjugacy_settling.specs.HalvingLaws.{halving_start, halving_place, halving_again, halving_end}
use Rattle.conjugacy_settling.proofs.split.Goals as goal

pub loop-i-init : goal.loop-i-init
loop-i-init c = halving_start

pub place-ends-requires : goal.place-ends-requires
place-ends-requires c =
    let (k, R, g) = c.requires in
    halving_place c.loop-i.invariant g (omega (arith, c.loop-i.invariant.same_word))

pub loop-i-preserved : goal.loop-i-preserved
loop-i-preserved c =
    let i = c.loop-i.invariant in
    halving_again i (omega (arith, i.same_word)) c.place-ends.ensures

pub returns : goal.returns
returns c = let i = c.loop-i.invariant in halving_end i (omega (arith, i.same_word))
