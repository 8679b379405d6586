-- `conjugacy_rounds::group_rounds` meets its contract. The loop's invariant: the larger of what is found and what the
-- parts that are left need is what is asked. Assumes nothing.
use borrow.Author.Rules.{rules}
use Rattle.conjugacy_rounds.specs.CountingLaws.{counting_again}
use Rattle.conjugacy_rounds.specs.CountingLaws.{counting_end}
use Rattle.conjugacy_rounds.proofs.group_rounds.Goals as goal

pub loop-j-preserved : goal.loop-j-preserved
loop-j-preserved c =
    counting_again c.loop-j.invariant c.loop-j-test.true (search rules) c.rounds_at-count.ensures
    c.larger-found.ensures

pub returns : goal.returns
returns c = counting_end c.loop-j.invariant c.loop-j-test.false
