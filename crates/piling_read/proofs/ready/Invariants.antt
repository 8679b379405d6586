-- `piling_read::ready` meets its contract: no row below k is ready.
use Rattle.array_counts.specs.First.{NoneBelow}
use Rattle.piling_read.specs.Reading.{Ready}
use Rattle.piling_read.proofs.ready.Given as goal

abbrev pub invariant-loop-k : goal.invariant-loop-k
invariant-loop-k l = NoneBelow (Ready l.piling.rows l.piling.heights l.at) l.k
