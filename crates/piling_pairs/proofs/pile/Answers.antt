-- `piling_pairs::pile` meets its contract. The command of a byte that is no filler is one of the 24, and a step that
-- tells a place leaves room for one pair more; twice the pairs are no more than the letters read.
use native.Mathlib.Omega.{arith}
use lib.ListN.{take}
use Rattle.spec.specs.Pairs.{left_of}
use Rattle.piling_pairs.specs.PairingLaws.{piling_start, given_range, piling_stepping, piling_filler}
use Rattle.piling_pairs.specs.PairingLaws.{piling_letters, piling_room, piling_letter, piling_counted}
use Rattle.piling_pairs.proofs.pile.Goals as goal
use Rattle.piling_pairs.proofs.pile.Goals.{then-letter-ne0, else-letter-ne0}

pub loop-i-init : goal.loop-i-init
loop-i-init c =
    piling_start c.blank-places.ensures.newest c.blank-places.ensures.below

pub overflow_sub-k : goal.overflow_sub-k
overflow_sub-k c = omega (arith, given_range c.requires.1 c.loop-i.i (omega arith) c.if-letter-ne0.true)

pub bounds-conflicts-k : goal.bounds-conflicts-k
bounds-conflicts-k c = omega (arith, given_range c.requires.1 c.loop-i.i (omega arith) c.if-letter-ne0.true)

pub push-step-requires : goal.push-step-requires
push-step-requires c =
    let (k, g, l) = c.requires in
    (k, left_of k (take c.loop-i.i _), piling_stepping c.loop-i.invariant (omega arith) c.if-letter-ne0.true g)

pub paired-n-requires : goal.paired-n-requires
paired-n-requires c =
    let (k, g, l) = c.requires in
    let h = c.loop-i.invariant in
    let w = c.push-step.ensures k (left_of k (take c.loop-i.i c.args.plan.now))
    (piling_stepping h (omega arith) c.if-letter-ne0.true g) in
    λ e f. omega (arith, piling_room h (omega arith) g l w.tells e f, h.long)

pub overflow_add-read : goal.overflow_add-read
overflow_add-read c = omega (arith, (piling_letters c.loop-i.invariant c.requires.1).1)

pub loop-i-preserved : goal.loop-i-preserved
loop-i-preserved c =
    let h = c.loop-i.invariant in
    elim c.if-letter-ne0.branch [
      | then-letter-ne0 w ↦
          rw (w.piling-is, w.pairs-is, w.places-is, w.read-is, w.n-is)
          (piling_letter h (omega arith) w.if-letter-ne0.true c.requires.2 w.push-step.ensures w.paired-n.ensures)
      | else-letter-ne0 w ↦
          rw (w.piling-is, w.pairs-is, w.places-is, w.read-is, w.n-is)
          (piling_filler h (omega arith) w.if-letter-ne0.false)
    ]

pub overflow_mul-result : goal.overflow_mul-result
overflow_mul-result c =
    omega (
      arith,
      (piling_letters c.loop-i.invariant c.requires.1).0,
      (piling_letters c.loop-i.invariant c.requires.1).1,
    )

pub overflow_sub-result : goal.overflow_sub-result
overflow_sub-result c = omega (arith, (piling_letters c.loop-i.invariant c.requires.1).0)

pub returns-clause-piled : goal.returns-clause-piled
returns-clause-piled c = piling_counted c.loop-i.invariant (omega arith)
