-- `array_words::lift` meets its contract: where the line is not sole the words are changed, and the numbers are written
-- from them.
use Rattle.array_words.specs.WordsLaws.{lifted}
use Rattle.array_words.proofs.lift.Goals as goal

pub returns-clause-lifted : goal.returns-clause-lifted
returns-clause-lifted c =
    (lifted c.requires.1 (c.requires.0.kept c.if-sole.false) c.add.ensures c.write.ensures).0

pub returns-clause-held : goal.returns-clause-held
returns-clause-held c = λ e. (lifted c.requires.1 (c.requires.0.kept e) c.add.ensures c.write.ensures).1
