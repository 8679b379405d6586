-- `piling_core::peel` meets its contract: for every word that the arrays stand for, pairs are taken off it one by one.
use native.Mathlib.Omega.{arith}
use lib.ListN.{length-set}
use Rattle.piling_core.specs.PeelLaws.{taken_end, taken_again, taken_fits, taken_movable, taken_room}
use Rattle.piling_core.proofs.peel.Goals as goal

pub bounds-lead-l : goal.bounds-lead-l
bounds-lead-l c = taken_fits c.loop-first.invariant c.in-Some.is c.requires

pub overflow_add-l : goal.overflow_add-l
overflow_add-l c = omega (arith, taken_fits c.loop-first.invariant c.in-Some.is c.requires, c.well_formed)

pub narrow-requires : goal.narrow-requires
narrow-requires c = taken_movable c.loop-first.invariant c.in-Some.is c.requires

pub pair-first-requires-in-Some : goal.pair-first-requires-in-Some
pair-first-requires-in-Some c = taken_room c.loop-first.invariant c.in-Some.is c.requires c.narrow.ensures

pub loop-first-smaller : goal.loop-first-smaller
loop-first-smaller c = simp length-set (omega (arith, taken_fits c.loop-first.invariant c.in-Some.is c.requires))

pub loop-first-preserved : goal.loop-first-preserved
loop-first-preserved c =
    taken_again c.loop-first.invariant c.in-Some.is c.narrow.ensures c.pair-first-in-Some.ensures

pub returns : goal.returns
returns c = record {
  rows = c.loop-first.invariant.same;
  peeled = taken_end c.loop-first.invariant c.in_default.is;
}
