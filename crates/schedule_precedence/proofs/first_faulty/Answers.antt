-- `schedule_precedence::first_faulty` meets its contract: what the laws of a search say of the pairs.
use Rattle.std.proofs.Common.{arith, sym, ◌∙◌}
use Rattle.spec_laws.specs.SearchLaws.{search_again}
use Rattle.schedule_precedence.specs.SearchingLaws.{pair_below, first_found, first_nowhere}
use Rattle.schedule_precedence.proofs.first_faulty.Goals as goal

pub returns-then-faulty : goal.returns-then-faulty
returns-then-faulty c =
    first_found c.loop-p.invariant (omega arith) (sym c.faulty.ensures ∙ c.if-faulty.true)

pub loop-p-preserved : goal.loop-p-preserved
loop-p-preserved c =
    search_again _ c.loop-p.invariant (pair_below _ c.loop-p.p (omega arith))
    (sym c.faulty.ensures ∙ c.if-faulty.false)

pub returns : goal.returns
returns c = first_nowhere c.loop-p.invariant (omega arith)
