-- The goals of `long_read::read_off` that the check leaves.
use Rattle.std.proofs.Common.{rules, arith}
use Rattle.long_read.specs.ReadLaws.{underway_end, underway_long, underway_again}
use Rattle.long_read.specs.ReadLaws.{underway_inside, underway_fits, underway_cuttable}
use Rattle.long_read.proofs.read_off.Goals as goal

pub overflow_sub-area : goal.overflow_sub-area
overflow_sub-area g c = (underway_cuttable c.loop-k.invariant c.in-Some.ensures).some

pub bounds-word-stacks : goal.bounds-word-stacks
bounds-word-stacks g c = underway_inside c.loop-k.invariant c.in-Some.ensures

pub bounds-area-l : goal.bounds-area-l
bounds-area-l g c = underway_fits c.loop-k.invariant c.in-Some.ensures

pub overflow_add-l : goal.overflow_add-l
overflow_add-l g c =
    let w = c.loop-k.invariant in
    omega (arith, underway_fits w c.in-Some.ensures, underway_long w)

pub cut-requires : goal.cut-requires
cut-requires g c = (search rules, underway_cuttable c.loop-k.invariant c.in-Some.ensures)

pub loop-k-smaller : goal.loop-k-smaller
loop-k-smaller g c =
    let w = c.loop-k.invariant in
    omega (arith, underway_fits w c.in-Some.ensures, underway_long w)

pub loop-k-preserved : goal.loop-k-preserved
loop-k-preserved g c =
    underway_again c.loop-k.invariant c.in-Some.ensures c.starts-starts.ensures c.cut.ensures

pub returns-clause-read : goal.returns-clause-read
returns-clause-read g c = underway_end c.loop-k.invariant c.in_default.ensures
