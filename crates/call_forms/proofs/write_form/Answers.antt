-- `call_forms::write_form` meets its contract: a line refuses, or the form is written. Assumes nothing.
use Rattle.std.proofs.lemmas.Result.{err_from_is_err_and}
use Rattle.piling_form.specs.Coring.{form}
use Rattle.call_forms.specs.FormingLaws.{form_refused}
use Rattle.call_forms.proofs.write_form.Goals as goal

pub returns-in_err-one_plan : goal.returns-in_err-one_plan
returns-in_err-one_plan c =
    let p = err_from_is_err_and c.from_residual.result c.from_residual.ensures.1 in
    let s = c.args in
    rw (p.1, p.2) (form_refused (form s.cored) s.area.now s.pairs.now c.in_err-one_plan.ensures)
