-- `busplan_normal_form` meets its contract: with a row of its own for the pairs the call is never refused by line 12.
use Rattle.std.proofs.Common.{arith, ◌∙◌, ap, w64}
use Rattle.std.proofs.Math.Facts.{to_z-of_z}
use Rattle.spec.specs.Letters.{normal_form}
use Rattle.spec.specs.Answers.{told_normal_form}
use Rattle.spec.specs.Codes.{length_code}
use Rattle.call_forms.specs.Forming.{WrittenForm}
use Rattle.call_forms.specs.FormingLaws.{alone_answer, alone_bytes}
use Rattle.busplan_c.proofs.busplan_normal_form.Goals as goal

pub returns-clause-answer : goal.returns-clause-answer
returns-clause-answer c =
    let e = c.normal_form-formed.ensures in
    let written : WrittenForm normal_form c.args.catalogue.now c.args.plan.now c.args.area.now c.own_pairs-pairs.result
    (told_normal_form c.normal_form-formed.result) c.normal_form-formed.new.area c.normal_form-formed.new.pairs =
    record { answer = e.answer; bytes = e.bytes; numbered = e.numbers } in
    to_z-of_z {w = w64} (record { sfits = c.length_code.type_inv })
    ∙ c.length_code.ensures
    ∙ ap length_code (c.length_alone.ensures ∙ alone_answer written (omega (arith, c.own_pairs-pairs.ensures)))

pub returns-clause-bytes : goal.returns-clause-bytes
returns-clause-bytes c =
    let e = c.normal_form-formed.ensures in
    let written : WrittenForm normal_form c.args.catalogue.now c.args.plan.now c.args.area.now c.own_pairs-pairs.result
    (told_normal_form c.normal_form-formed.result) c.normal_form-formed.new.area c.normal_form-formed.new.pairs =
    record { answer = e.answer; bytes = e.bytes; numbered = e.numbers } in
    alone_bytes written (omega (arith, c.own_pairs-pairs.ensures))
