-- `piling_left::tally` meets its contract. The loop's invariant: the letters of the first i bytes are counted.
use Prim.Native.Nat.{◌≤◌}
use lib.ListN.{length, take}
use Rattle.piling_left.specs.Left.{Tallied}
use Rattle.piling_left.proofs.tally.Given as goal

abbrev pub invariant-loop-byte : goal.invariant-loop-byte
invariant-loop-byte l = (l.byte-index ≤ length l.word) × Tallied (take l.byte-index l.word) l.counts
