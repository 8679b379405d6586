-- `conjugacy_commands::occurring` meets its contract. The loop's invariant: the flags tell of the letters before this
-- one. Assumes nothing.
use Rattle.conjugacy_commands.specs.SeenLaws.{seen_start, seen_again, seen_end}
use Rattle.conjugacy_commands.proofs.occurring.Goals as goal

pub loop-letter-init : goal.loop-letter-init
loop-letter-init c = seen_start _

pub loop-letter-preserved : goal.loop-letter-preserved
loop-letter-preserved c =
    seen_again c.index_of-k.result c.index_of-k.ensures.0 c.index_of-k.ensures.1
    c.loop-letter-test.true c.loop-letter.invariant

pub returns : goal.returns
returns c = seen_end c.requires c.loop-letter-test.false c.loop-letter.invariant
