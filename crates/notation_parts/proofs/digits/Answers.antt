-- `notation_parts::digits` meets its contract: each digit read keeps the invariant, and no digit stands where it ends.
use Rattle.std.proofs.Common.{arith}
use Rattle.notation_parts.specs.DigitLaws.{scan_room, scan_again, scan_end, scan_past}
use Rattle.notation_parts.proofs.NoDigitLaws.{no_digit_at, no_digit_past}
use Rattle.notation_parts.proofs.digits.Goals as goal

pub returns-in_default : goal.returns-in_default
returns-in_default c =
    let s = c.args.text.now in
    let k = c.token_of in
    scan_end s c.loop-i.invariant (no_digit_at s c.loop-i.i (omega arith) k.result k.ensures c.in_default.not-Digit)

pub overflow_mul-value : goal.overflow_mul-value
overflow_mul-value c = omega (arith, scan_room _ c.loop-i.invariant (omega arith) c.in-Digit.ensures)

pub overflow_add-value : goal.overflow_add-value
overflow_add-value c = omega (arith, scan_room _ c.loop-i.invariant (omega arith) c.in-Digit.ensures)

pub loop-i-preserved : goal.loop-i-preserved
loop-i-preserved c = scan_again _ c.loop-i.invariant (omega arith) c.in-Digit.ensures

pub returns : goal.returns
returns c =
    let s = c.args.text.now in
    scan_past s c.loop-i.invariant c.loop-i-test.false c.requires.within
    (no_digit_past s c.loop-i.i c.loop-i-test.false)
