-- The measure of `longest` is the length of the word.
use Rattle.std.proofs.Common.{length}
use Rattle.cases_solver.proofs.slotting.+longest.Given as goal

abbrev pub decreases-longest : goal.decreases-longest
decreases-longest l = length l.word.now
