-- `conjugacy_rounds::Parts::next_apex` meets its contract. The loop's invariant: the apexes from k on are those
-- from j on. Assumes nothing.
use Rattle.conjugacy_rounds.specs.ApexesLaws.{Searching}
use Rattle.conjugacy_rounds.proofs.Parts.next_apex.Given as goal

abbrev pub invariant-loop-j : goal.invariant-loop-j
invariant-loop-j l = Searching l.self.flags l.self.labels l.k l.j
