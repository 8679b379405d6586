-- `busplan_precedence_fault` meets its contract.
use Rattle.std.proofs.Common.{◌∙◌, ap, ◌≡◌, refl, Bool, w64}
use Rattle.std.proofs.Math.Facts.{to_z-of_z}
use Rattle.std.proofs.Math.Option.{Option, none, some}
use Rattle.spec.specs.Table.{Line, or_else}
use Rattle.spec.specs.Answers.{told_fault}
use Rattle.spec.specs.Codes.{fault_code, refused_by}
use Rattle.spec.specs.Fault.{fault_numbers}
use Rattle.spec.specs.Precedence.{precedence_fault}
use Rattle.busplan_c.proofs.busplan_precedence_fault.Goals as goal

refused_by_lem : (o : Option Line) (b : Bool) → refused_by (or_else o b) ≡ o
refused_by_lem none b = refl
refused_by_lem (some l) b = refl

pub returns-clause-answer : goal.returns-clause-answer
returns-clause-answer c =
    let same : told_fault c.precedence_fault-refused.result
    ≡ precedence_fault c.args.catalogue.now c.args.plan.now c.args.places.now =
    c.precedence_fault-refused.ensures ∙ ap refused_by c.precedence.ensures ∙ refused_by_lem _ _ in
    to_z-of_z {w = w64} (record { sfits = c.fault_code.type_inv }) ∙ c.fault_code.ensures ∙ ap fault_code same

pub returns-clause-numbers : goal.returns-clause-numbers
returns-clause-numbers c =
    let same : told_fault c.precedence_fault-refused.result
    ≡ precedence_fault c.args.catalogue.now c.args.plan.now c.args.places.now =
    c.precedence_fault-refused.ensures ∙ ap refused_by c.precedence.ensures ∙ refused_by_lem _ _ in
    c.fault_numbers.ensures ∙ ap (λ o. fault_numbers o c.args.fault.now) same
