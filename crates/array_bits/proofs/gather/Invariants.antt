-- What the loop of `array_bits::gather` keeps: what is gathered are the numbers from k on.
use Rattle.spec_laws.specs.GatherLaws.{Gathering}
use Rattle.array_bits.proofs.gather.Given as goal

abbrev pub invariant-loop-k : goal.invariant-loop-k
invariant-loop-k l = Gathering l.low l.high l.numbers l.k l.bits
