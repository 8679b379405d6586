-- What the loop of `schedule_precedence::first_faulty` keeps: a search from pair 0 has come to p.
use Rattle.spec.specs.Precedence.{faulty, pairs_in}
use Rattle.spec_laws.specs.SearchLaws.{Searching}
use Rattle.schedule_precedence.proofs.first_faulty.Given as goal

abbrev pub invariant-loop-p : goal.invariant-loop-p
invariant-loop-p l = Searching (faulty l.letters l.places) (pairs_in l.places) 0 l.p
