-- What the loop of `array_starts::starts` keeps: the lines below j have been counted.
use Rattle.array_starts.specs.StartsLaws.{Counting}
use Rattle.array_starts.proofs.starts.Given as goal

abbrev pub invariant-loop-j : goal.invariant-loop-j
invariant-loop-j l = Counting l.conflicts l.counts l.free l.j
