-- `notation_parts::digits` meets its contract. The loop's invariant: the digits from place `at` on have been read up to
-- place i, and those that follow keep the value small.
use Rattle.notation_parts.specs.DigitLaws.{Scanned}
use Rattle.notation_parts.proofs.digits.Given as goal

abbrev pub invariant-loop-i : goal.invariant-loop-i
invariant-loop-i l = Scanned l.text l.fn.value l.at l.value l.i
