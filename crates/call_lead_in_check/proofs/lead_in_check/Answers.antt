-- `call_lead_in_check::lead_in_check` meets its contract: a line refuses, or v·u and u·w are compared. Assumes nothing.
use Rattle.std.proofs.lemmas.Result.{err_from_is_err_and}
use Rattle.call_lead_in_check.specs.LeadCheckLaws.{check_refused, check_comparable, check_told}
use Rattle.call_lead_in_check.proofs.lead_in_check.Goals as goal

pub returns-in_err-three_plans : goal.returns-in_err-three_plans
returns-in_err-three_plans c =
    let p = err_from_is_err_and c.from_residual.result c.from_residual.ensures.1 in
    let t = check_refused c.args.u.now c.args.area0.now c.args.area1.now c.in_err-three_plans.ensures in
    record { answer = rw (p.1, p.2) t.answer; bytes0 = t.bytes0; bytes1 = t.bytes1 }

pub returns : goal.returns
returns c =
    let s = c.args in
    let d = c.in_ok-three_plans.ensures in
    let k = check_comparable s.u.now s.area0.now s.area1.now d c.if-area0-v.false c.if-area1-u.false in
    let t = check_told s.u.now s.area0.now s.area1.now d c.if-area0-v.false c.if-area1-u.false
    (c.compare.ensures s.catalogue.now k) in
    record { answer = t.answer; bytes0 = t.bytes0; bytes1 = t.bytes1 }
