-- The goal of `array_counts::lower` that the check leaves.
use Rattle.std.proofs.Common.{rules}
use Rattle.array_counts.proofs.lower.Goals as goal

pub returns : goal.returns
returns c = record { kept = c.change.ensures.kept; each = λ i l. search (rules, c.change.ensures.each i l) }
