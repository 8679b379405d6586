-- `conjugacy_rounds::apex_rounds` meets its contract: the part of a command that is alone needs no rounds. Assumes
-- nothing.
use Rattle.conjugacy_rounds.specs.CountingLaws.{counts_alone}
use Rattle.conjugacy_rounds.proofs.apex_rounds.Goals as goal

pub returns-then-alone : goal.returns-then-alone
returns-then-alone c = λ k x h. counts_alone h (c.alone.ensures.0 c.if-alone.true)
