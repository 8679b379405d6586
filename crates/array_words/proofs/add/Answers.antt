-- The goal of `array_words::add` that the check leaves.
use Rattle.std.proofs.Common.{rules}
use Rattle.array_words.proofs.add.Goals as goal

pub returns : goal.returns
returns c = record { kept = c.combine.ensures.kept; each = λ i l. search (rules, c.combine.ensures.each i l) }
