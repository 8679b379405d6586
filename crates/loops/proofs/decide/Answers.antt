-- `decide` gives what the loops call answers, in an area that is large enough, and counts the core's letters.
use Rattle.std.proofs.Common.{◌∙◌}
use Rattle.std.proofs.lemmas.Result.{err_from_is_err_and}
use Rattle.loops.specs.ProgramLaws.{loops_joined, loops_apart, loops-refused, decided_as}
use Rattle.loops.proofs.decide.Goals as goal

pub returns-in_err-decided : goal.returns-in_err-decided
returns-in_err-decided c =
    let p = err_from_is_err_and c.from_residual.result c.from_residual.ensures.1 in
    let a = c.args in
    rw (p.1, p.2)
    (loops-refused a.catalogue.now a.v.now a.w.now c.row-area.result c.row-area.ensures c.in_err-decided.ensures)

pub returns-in-Some : goal.returns-in-Some
returns-in-Some c =
    let a = c.args in
    c.joined.ensures
    ∙ loops_joined a.catalogue.now a.v.now a.w.now c.row-area.result c.row-area.ensures
    (decided_as a.catalogue.now a.v.now a.w.now c.row-area.result c.row-area.ensures c.in_ok-decided.ensures c.in-Some.is)

pub returns-in-None : goal.returns-in-None
returns-in-None c =
    let a = c.args in
    loops_apart a.catalogue.now a.v.now a.w.now c.row-area.result c.row-area.ensures
    (decided_as a.catalogue.now a.v.now a.w.now c.row-area.result c.row-area.ensures c.in_ok-decided.ensures c.in-None.is)
