-- `input_checks::one_plan` meets its contract: the plan's lines come after those of the catalogue.
use Rattle.std.proofs.lemmas.Result.{err_from_is_err_and}
use Rattle.spec.specs.Catalogue.{commands}
use Rattle.spec.specs.Plan.{plan_lines}
use Rattle.input_checks.specs.EntryLaws.{then_more, then_refused, then_passed, first_entered, read_told}
use Rattle.input_checks.proofs.one_plan.Goals as goal

pub returns-in_err-commands : goal.returns-in_err-commands
returns-in_err-commands c =
    let p = err_from_is_err_and c.from_residual.result c.from_residual.ensures.1 in
    let a = c.args in
    rw (p.1, p.2)
    (first_entered a.plan.now c.read.ensures
    (then_more (plan_lines 1 1024 (commands a.catalogue.now) a.plan.now) (read_told c.in_err-commands.ensures)))

pub returns-in_err-check : goal.returns-in_err-check
returns-in_err-check c =
    let p = err_from_is_err_and c.from_residual-in_err-check.result c.from_residual-in_err-check.ensures.1 in
    let a = c.args in
    rw (p.1, p.2)
    (first_entered a.plan.now c.read.ensures
    (then_refused 1 1024 a.plan.now (read_told c.in_ok-commands.ensures) c.in_err-check.ensures))

pub returns : goal.returns
returns c =
    let a = c.args in
    first_entered a.plan.now c.read.ensures
    (then_passed 1 1024 a.plan.now (read_told c.in_ok-commands.ensures) c.in_ok-check.ensures)
