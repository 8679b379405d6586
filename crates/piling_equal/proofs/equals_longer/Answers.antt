-- `piling_equal::equals_longer` meets its contract: the plan that the test of the lengths chooses is undone.
use Rattle.piling_equal.specs.EqualLaws.{longer_first, longer_second}
use Rattle.piling_equal.proofs.equals_longer.Goals as goal

pub equals-requires : goal.equals-requires
equals-requires c = rw (longer_first c.args.v.now c.args.w.now c.if-w-v.true) at c.requires

pub returns-then-w-v : goal.returns-then-w-v
returns-then-w-v c = rw (longer_first c.args.v.now c.args.w.now c.if-w-v.true) c.equals.ensures

pub equals-requires-2 : goal.equals-requires-2
equals-requires-2 c = rw (longer_second c.args.v.now c.args.w.now c.if-w-v.false) at c.requires

pub returns : goal.returns
returns c = rw (longer_second c.args.v.now c.args.w.now c.if-w-v.false) c.equals-2.ensures
