-- `array_words::lower` meets its contract: where the line is not sole the words are changed, and the numbers are written
-- from them.
use Rattle.array_words.specs.WordsLaws.{lowered}
use Rattle.array_words.proofs.lower.Goals as goal

pub returns-clause-lowered : goal.returns-clause-lowered
returns-clause-lowered c =
    (lowered c.requires.1 (c.requires.0.kept c.if-sole.false) c.subtract.ensures c.write.ensures).0

pub returns-clause-held : goal.returns-clause-held
returns-clause-held c = λ e. (lowered c.requires.1 (c.requires.0.kept e) c.subtract.ensures c.write.ensures).1
