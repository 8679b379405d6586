-- `schedule_chains::follow` meets its contract: each return is one case of `Followed`.
use Rattle.std.proofs.Common.{sym, ◌∙◌, true≢false}
use Rattle.schedule_chains.specs.Following.{apart, reach}
use Rattle.schedule_chains.proofs.follow.Goals as goal

pub returns-then-independent : goal.returns-then-independent
returns-then-independent c = apart (c.independent.ensures.0 c.if-independent.true)

pub returns : goal.returns
returns c = reach (λ f. true≢false (sym (c.independent.ensures.1 f) ∙ c.if-independent.false)) c.add.ensures
