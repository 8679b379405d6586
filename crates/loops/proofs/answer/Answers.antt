-- `answer` cuts a well framed input where its places say; a badly framed one gets line 11.
use Rattle.std.proofs.Common.{◌∙◌}
use Rattle.loops.specs.ProgramLaws.{well_laid, well_answer}
use Rattle.loops.proofs.answer.Goals as goal

pub returns-in-Some : goal.returns-in-Some
returns-in-Some c =
    c.decide.ensures ∙ well_answer c.args.input.now c.in-Some.places (well_laid c.in-Some.ensures)
