-- `array_lone::lone` meets its contract: the sum of a line of bits fits, and a line whose sum is 1 is sole.
use Rattle.std.proofs.Common.{arith, sym, ◌∙◌, below_more}
use Rattle.array_lone.specs.LoneLaws.{bits_fit, line_bits, line_sole}
use Rattle.array_lone.proofs.lone.Goals as goal

pub total-requires : goal.total-requires
total-requires c = bits_fit (line_bits c.requires.1 (omega arith))

pub loop-k-preserved : goal.loop-k-preserved
loop-k-preserved c =
    let s = line_sole c.requires.1 (omega arith) (sym c.total.ensures ∙ c.if-total-ne1.false) in
    below_more _ _ c.loop-k.invariant s
