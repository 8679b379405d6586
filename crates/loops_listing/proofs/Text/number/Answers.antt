-- `number` copies the word, and behind it what io::decimal makes, at most 20 digits.
use Rattle.std.proofs.Common.{arith, take}
use Rattle.array_row.specs.AppendLaws.{appended_then}
use Rattle.loops_listing.specs.DecimalLaws.{digits_decimal}
use Rattle.loops_listing.specs.PutLaws.{decimal_short}
use Rattle.loops_listing.proofs.Text.number.Goals as goal

pub returns-clause-there : goal.returns-clause-there
returns-clause-there c =
    let d = c.decimal-k in
    let w = c.word.ensures in
    record {
      digits = take d.result d.new.out;
      says = rw d.ensures.digits (digits_decimal d.result _ d.ensures.len);
      short = omega (arith, decimal_short c.ranges.n d.ensures.len, d.ensures.in_bounds.1);
      there = appended_then w.there c.word-2.ensures.there (omega (arith, w.there.ends, c.requires));
    }
