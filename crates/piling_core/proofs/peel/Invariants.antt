-- `piling_core::peel` meets its contract: for every word that the arrays stand for, pairs are taken off it one by one.
use Prim.Native.Nat.{◌-◌}
use lib.ListN.{length}
use Rattle.piling_core.specs.PeelLaws.{Taken}
use Rattle.piling_core.proofs.peel.Given as goal

abbrev pub invariant-loop-first : goal.invariant-loop-first
invariant-loop-first l =
    Taken l.conflicts l.initial.piling.rows l.initial.piling.heights l.initial.at l.initial.lead l.piling.rows l.piling.heights l.at l.lead l.l l.first

abbrev pub decreases-loop-first : goal.decreases-loop-first
decreases-loop-first l = length l.lead - l.l
