-- `input_checks::two_plans` meets its contract: the second plan's lines come after those of the first.
use Rattle.std.proofs.lemmas.Result.{err_from_is_err_and}
use Rattle.spec.specs.Catalogue.{commands}
use Rattle.spec.specs.Plan.{plan_lines}
use Rattle.input_checks.specs.EntryLaws.{then_more, then_refused, then_passed, second_entered}
use Rattle.input_checks.proofs.two_plans.Goals as goal

pub returns-in_err-commands : goal.returns-in_err-commands
returns-in_err-commands c =
    let p = err_from_is_err_and c.from_residual.result c.from_residual.ensures.1 in
    let a = c.args in
    rw (p.1, p.2)
    (second_entered a.w.now c.one_plan.ensures
    (then_more (plan_lines 2 1024 (commands a.catalogue.now) a.w.now) c.in_err-commands.ensures.told))

pub returns-in_err-check : goal.returns-in_err-check
returns-in_err-check c =
    let p = err_from_is_err_and c.from_residual-in_err-check.result c.from_residual-in_err-check.ensures.1 in
    let a = c.args in
    rw (p.1, p.2)
    (second_entered a.w.now c.one_plan.ensures
    (then_refused 2 1024 a.w.now c.in_ok-commands.ensures.told c.in_err-check.ensures))

pub returns : goal.returns
returns c =
    let a = c.args in
    second_entered a.w.now c.one_plan.ensures
    (then_passed 2 1024 a.w.now c.in_ok-commands.ensures.told c.in_ok-check.ensures)
