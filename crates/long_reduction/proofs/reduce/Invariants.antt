-- What the loop of `long_reduction::reduce` keeps: the stacks are those of the word from place i on, reduced.
use Rattle.std.proofs.Common.{ℕ, List, length}
use Rattle.long_reduction.specs.Reducing.{Reducing}
use Rattle.long_reduction.proofs.reduce.Given as goal

abbrev pub invariant-loop-i : goal.invariant-loop-i
invariant-loop-i g l =
    (c : List ℕ) → Reducing c l.conflicts l.word l.initial.stacks (length l.word)
    → Reducing c l.conflicts l.word l.stacks l.i
