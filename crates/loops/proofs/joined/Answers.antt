-- `joined` gives what the core call answers, in an area that is large enough.
use Rattle.std.proofs.lemmas.Result.{err_from_is_err_and}
use Rattle.loops.specs.ProgramLaws.{core-length, core_refused}
use Rattle.loops.proofs.joined.Goals as goal

pub returns-in_err-letters : goal.returns-in_err-letters
returns-in_err-letters c =
    let p = err_from_is_err_and c.from_residual.result c.from_residual.ensures.1 in
    rw (p.1, p.2)
    (core_refused c.args.catalogue.now c.args.v.now c.row-area.result c.row-area.ensures c.in_err-letters.ensures.answer)

pub returns : goal.returns
returns c =
    core-length c.args.catalogue.now c.args.v.now c.row-area.result c.row-area.ensures c.in_ok-letters.ensures.answer
