-- `conjugacy_cliques::covers` meets its contract. The loop's invariant: what is gathered is 0 as long as the flags
-- passed are covered. Assumes nothing.
use Rattle.std.proofs.Common.{length}
use Rattle.conjugacy_cliques.specs.CoveredLaws.{Gathered}
use Rattle.conjugacy_cliques.proofs.covers.Given as goal

abbrev pub invariant-loop-flag : goal.invariant-loop-flag
invariant-loop-flag l = Gathered l.line l.flags l.missing (length l.yielded)
