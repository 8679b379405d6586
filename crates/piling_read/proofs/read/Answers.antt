-- `piling_read::read` meets its contract: for every word that the arrays stand for, the letters written and those left.
use native.Mathlib.Omega.{arith}
use lib.ListN.{length-set}
use Rattle.piling_read.specs.ReadLaws.{first_low, written_end, written_again, written_fits, written_line, written_room}
use Rattle.piling_read.specs.ReadLaws.{written_passed}
use Rattle.piling_read.proofs.read.Goals as goal

pub bounds-area-l : goal.bounds-area-l
bounds-area-l c = written_fits c.loop-first.invariant c.in-Some.is c.requires

pub overflow_add-l : goal.overflow_add-l
overflow_add-l c = omega (arith, written_fits c.loop-first.invariant c.in-Some.is c.requires, c.well_formed)

pub lift-requires : goal.lift-requires
lift-requires c =
    let l = first_low c.loop-first.invariant c.in-Some.is in
    written_line c.loop-first.invariant c.in-Some.is c.requires _ (omega (arith, l))

pub next-first-requires : goal.next-first-requires
next-first-requires c = (
  written_room c.loop-first.invariant c.in-Some.is c.requires c.lift.ensures,
  written_passed c.loop-first.invariant c.in-Some.is c.requires c.starts-starts.ensures c.lift.ensures,
)

pub loop-first-smaller : goal.loop-first-smaller
loop-first-smaller c =
    simp length-set (omega (arith, written_fits c.loop-first.invariant c.in-Some.is c.requires))

pub loop-first-preserved : goal.loop-first-preserved
loop-first-preserved c = written_again c.loop-first.invariant c.in-Some.is c.lift.ensures c.next-first.ensures

pub returns : goal.returns
returns c = written_end c.loop-first.invariant c.in_default.is
