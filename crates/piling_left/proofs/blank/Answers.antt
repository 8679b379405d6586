-- `piling_left::blank` meets its contract. The loop's invariant: the places from i on are left. Assumes nothing.
use native.Mathlib.Omega.{arith}
use Rattle.piling_left.specs.BlankLaws.{blanking_again, blanking_end}
use Rattle.piling_left.proofs.blank.Goals as goal

pub loop-place-preserved : goal.loop-place-preserved
loop-place-preserved c = blanking_again c.loop-place.invariant (omega arith)

pub returns : goal.returns
returns c = blanking_end c.loop-place.invariant (omega arith)
