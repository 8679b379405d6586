-- `piling_left::tally` meets its contract. The loop's invariant: the letters of the first i bytes are counted.
use native.Mathlib.Omega.{arith}
use Rattle.piling_left.specs.TallyLaws.{tallied_low, tallied_again}
use Rattle.piling_left.proofs.tally.Goals as goal

pub overflow_add-counts : goal.overflow_add-counts
overflow_add-counts c =
    record { fits = tallied_low c.args.word.now c.loop-byte.byte-index c.loop-byte.invariant.1 (omega arith) c.requires }

pub loop-byte-preserved : goal.loop-byte-preserved
loop-byte-preserved c =
    (omega arith, tallied_again c.args.word.now c.loop-byte.byte-index c.loop-byte.invariant.1 (omega arith))
