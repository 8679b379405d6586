-- `piling_core::pair` meets its contract: no row below i has a pair.
use Rattle.array_counts.specs.First.{NoneBelow}
use Rattle.piling_core.specs.Peeling.{Pair}
use Rattle.piling_core.proofs.pair.Given as goal

abbrev pub invariant-loop-i : goal.invariant-loop-i
invariant-loop-i l = NoneBelow (Pair l.piling.rows l.piling.heights l.at) l.i
