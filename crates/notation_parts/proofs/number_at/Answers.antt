-- `notation_parts::number_at` meets its contract: a first digit, and those behind it.
use Rattle.std.proofs.Common.{arith}
use Rattle.notation_parts.specs.DigitLaws.{number_none, number_small, number_more}
use Rattle.notation_parts.proofs.NoDigitLaws.{no_digit_at}
use Rattle.notation_parts.proofs.number_at.Goals as goal

pub returns-in_default : goal.returns-in_default
returns-in_default c =
    let s = c.args.text.now in
    let k = c.token_of in
    number_none _ _ (no_digit_at s c.args.at (omega arith) k.result k.ensures c.in_default.not-Digit)

pub digits-requires : goal.digits-requires
digits-requires c = record {
  small = number_small c.args.text.now c.args.at (omega arith) c.in-Digit.ensures c.requires;
  within = omega arith;
}

pub returns : goal.returns
returns c =
    number_more c.args.text.now c.args.at (omega arith) c.in-Digit.ensures c.digits.result c.digits.ensures
