-- What the loop of `array_row::same_bytes` keeps: `differ` is 0 as long as the bytes so far agree.
use Rattle.std.proofs.Common.{length}
use Rattle.array_row.specs.CompareLaws.{Compared}
use Rattle.array_row.proofs.same_bytes.Given as goal

abbrev pub invariant-loop-x : goal.invariant-loop-x
invariant-loop-x l = Compared l.a l.b l.differ (length l.yielded)
