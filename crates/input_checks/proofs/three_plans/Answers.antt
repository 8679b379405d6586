-- `input_checks::three_plans` meets its contract: the lead-in's lines come after those of the plans.
use Rattle.std.proofs.lemmas.Result.{err_from_is_err_and}
use Rattle.spec.specs.Catalogue.{commands}
use Rattle.spec.specs.Plan.{plan_lines}
use Rattle.input_checks.specs.EntryLaws.{then_more, then_refused, then_passed, third_entered}
use Rattle.input_checks.proofs.three_plans.Goals as goal

pub returns-in_err-commands : goal.returns-in_err-commands
returns-in_err-commands c =
    let p = err_from_is_err_and c.from_residual.result c.from_residual.ensures.1 in
    let a = c.args in
    rw (p.1, p.2)
    (third_entered a.u.now c.two_plans.ensures
    (then_more (plan_lines 3 49152 (commands a.catalogue.now) a.u.now) c.in_err-commands.ensures.told))

pub returns-in_err-check : goal.returns-in_err-check
returns-in_err-check c =
    let p = err_from_is_err_and c.from_residual-in_err-check.result c.from_residual-in_err-check.ensures.1 in
    let a = c.args in
    rw (p.1, p.2)
    (third_entered a.u.now c.two_plans.ensures
    (then_refused 3 49152 a.u.now c.in_ok-commands.ensures.told c.in_err-check.ensures))

pub returns : goal.returns
returns c =
    let a = c.args in
    third_entered a.u.now c.two_plans.ensures
    (then_passed 3 49152 a.u.now c.in_ok-commands.ensures.told c.in_ok-check.ensures)
