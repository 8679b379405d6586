-- What the loop of `schedule_precedence::all_lead` keeps: the pairs before p stay in order.
use Rattle.schedule_precedence.specs.SearchingLaws.{Leading}
use Rattle.schedule_precedence.proofs.all_lead.Given as goal

abbrev pub invariant-loop-p : goal.invariant-loop-p
invariant-loop-p l = Leading l.word l.conflicts l.places l.p
