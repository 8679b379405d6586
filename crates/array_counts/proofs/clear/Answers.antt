-- The goal of `array_counts::clear` that the check leaves.
use Rattle.std.proofs.Common.{rules}
use Rattle.array_counts.specs.Heights.{without}
use Rattle.array_counts.proofs.clear.Goals as goal

pub returns : goal.returns
unfolding without
returns c = record { kept = c.change.ensures.kept; each = λ i l. search (rules, c.change.ensures.each i l) }
