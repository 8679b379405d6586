-- `piling_read::read` meets its contract: for every word that the arrays stand for, the letters written and those left.
use Prim.Native.Nat.{◌-◌}
use lib.ListN.{length}
use Rattle.piling_read.specs.ReadLaws.{Written}
use Rattle.piling_read.proofs.read.Given as goal

abbrev pub invariant-loop-first : goal.invariant-loop-first
invariant-loop-first l =
    Written l.conflicts l.piling.rows l.piling.heights l.initial.at l.initial.area l.at l.area l.l l.first

abbrev pub decreases-loop-first : goal.decreases-loop-first
decreases-loop-first l = length l.area - l.l
