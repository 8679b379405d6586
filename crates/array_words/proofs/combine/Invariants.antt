-- What the loop of `array_words::combine` keeps: below i the words are combined, from i on they are as they were.
use Rattle.array_words.specs.WordsLaws.{ByWord}
use Rattle.array_words.proofs.combine.Given as goal

abbrev pub invariant-loop-i : goal.invariant-loop-i
invariant-loop-i g l = ByWord (goal.F-post g l.op) l.line l.initial.words l.words l.i
