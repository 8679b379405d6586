-- The loop of `Part::of`: the part has the bytes gone over, or the first 3,200 of them.
use Rattle.std.proofs.Common.{◌≡◌, take}
use Rattle.cases_table.proofs.part.Part.of.Given as goal

abbrev pub invariant-loop-b : goal.invariant-loop-b
invariant-loop-b l = take l.part.size l.part.bytes ≡ take 3200 (take l.b-index l.bytes)
