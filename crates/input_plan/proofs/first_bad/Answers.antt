-- `input_plan::first_bad` meets its contract: where every byte passes there is no first that does not.
use Rattle.std.proofs.Common.{sym, ◌∙◌, ap, not}
use Rattle.spec.specs.Plan.{passes}
use Rattle.spec_laws.specs.PlanLaws.{passing_bad}
use Rattle.input_plan.specs.Place.{told_place}
use Rattle.input_plan.specs.PlaceLaws.{found_place}
use Rattle.input_plan.proofs.first_bad.Goals as goal

pub returns-then-all_pass : goal.returns-then-all_pass
returns-then-all_pass c =
    let a = c.args in
    sym (passing_bad a.commands a.plan.now (c.all_pass.ensures.0 c.if-all_pass.true))

pub returns : goal.returns
returns c =
    let a = c.args in
    ap told_place c.find_bad.ensures ∙ found_place (λ b. not (passes a.commands b)) a.plan.now
