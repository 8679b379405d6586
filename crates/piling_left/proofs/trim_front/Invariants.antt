-- `piling_left::trim_front` meets its contract. The loop's invariant: the first i bytes are trimmed.
use Rattle.piling_left.specs.Left.{trimmed}
use Rattle.piling_left.specs.TrimmedLaws.{Fronts}
use Rattle.piling_left.proofs.trim_front.Given as goal

abbrev pub invariant-loop-byte : goal.invariant-loop-byte
invariant-loop-byte l = Fronts (trimmed l.initial.left l.initial.word) l.initial.word l.word l.left l.more l.byte-index
