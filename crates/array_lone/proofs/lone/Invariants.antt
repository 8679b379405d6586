-- What the loop of `array_lone::lone` keeps: the lines before k are sole.
use Rattle.std.proofs.Common.{ℕ, ◌<◌, [], get_or}
use Rattle.array_words.specs.Words.{Sole}
use Rattle.array_lone.proofs.lone.Given as goal

abbrev pub invariant-loop-k : goal.invariant-loop-k
invariant-loop-k l = (i : ℕ) → i < l.k → Sole i (get_or l.conflicts i [])
