-- The goals of `array_starts::starts` that the check leaves.
use Rattle.array_starts.specs.StartsLaws.{counting_start, counting_room, counting_again}
use Rattle.array_starts.proofs.starts.Goals as goal

pub loop-j-init : goal.loop-j-init
loop-j-init c = counting_start c.blank_heights-counts.ensures c.ones-free.ensures

pub lift-requires : goal.lift-requires
lift-requires c =
    counting_room c.loop-j.invariant c.loop-j-test.true c.clear.ensures

pub loop-j-preserved : goal.loop-j-preserved
loop-j-preserved c =
    counting_again c.loop-j.invariant c.loop-j-test.true c.clear.ensures
    c.lift.ensures
