-- `piling_left::trim_back` meets its contract. The loop's invariant: the bytes from i on are trimmed.
use mathlib.Core.List.{reverse}
use Rattle.piling_left.specs.Left.{trimmed}
use Rattle.piling_left.specs.TrimmedLaws.{Backs}
use Rattle.piling_left.proofs.trim_back.Given as goal

abbrev pub invariant-loop-i : goal.invariant-loop-i
invariant-loop-i l = Backs (trimmed l.initial.left (reverse l.initial.word)) l.initial.word l.word l.left l.more l.i
