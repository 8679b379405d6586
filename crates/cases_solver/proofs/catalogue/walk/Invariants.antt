-- `walk` stays at the index of a record.
use Rattle.std.proofs.Common.{◌<◌}
use Rattle.cases_solver.proofs.catalogue.walk.Given as goal

abbrev pub invariant-loop-turn : goal.invariant-loop-turn
invariant-loop-turn l = l.j < 65536
