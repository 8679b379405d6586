-- `core` ends, since each word is shorter than the one before.
use Rattle.cases_solver.proofs.conjugacy.core.Given as goal

abbrev pub decreases-loop-y : goal.decreases-loop-y
decreases-loop-y l = l.x.length
