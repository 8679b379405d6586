-- What the loop of `array_words::write` keeps: the numbers of the words below i are written.
use Rattle.array_words.specs.WordsLaws.{Writing}
use Rattle.array_words.proofs.write.Given as goal

abbrev pub invariant-loop-i : goal.invariant-loop-i
invariant-loop-i l = Writing l.words l.initial.numbers l.numbers l.i
