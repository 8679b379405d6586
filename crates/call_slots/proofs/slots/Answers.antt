-- `call_slots::slots` meets its contract: a line refuses, or the normal form and its slots are written. Assumes
-- nothing.
use Rattle.std.proofs.lemmas.Result.{err_from_is_err_and}
use Rattle.input_checks.specs.EntryLaws.{told_none}
use Rattle.call_slots.specs.SlottingLaws.{slots_refused, slots_written, form_numberable}
use Rattle.call_slots.proofs.slots.Goals as goal

pub returns-in_err-one_plan : goal.returns-in_err-one_plan
returns-in_err-one_plan c =
    let p = err_from_is_err_and c.from_residual.result c.from_residual.ensures.1 in
    let t = slots_refused c.args.area.now c.args.slots.now c.in_err-one_plan.ensures in
    record { answer = rw (p.1, p.2) t.answer; bytes = t.bytes; numbers = t.numbered }

pub number-in_use-requires : goal.number-in_use-requires
number-in_use-requires c =
    let cat = c.args.catalogue.now in
    let d = c.in_ok-one_plan.ensures in
    let passed = d.passed (told_none d.told) in
    (cat, form_numberable passed (c.form_alone-length.ensures cat passed) c.if-slots-plan.false)

pub returns : goal.returns
returns c =
    let cat = c.args.catalogue.now in
    let d = c.in_ok-one_plan.ensures in
    let passed = d.passed (told_none d.told) in
    let s = c.form_alone-length.ensures cat passed in
    let g = form_numberable passed s c.if-slots-plan.false in
    let t = slots_written c.args.area.now c.args.slots.now d c.if-area-plan.false c.if-slots-plan.false s
    (c.number-in_use.ensures cat g) in
    record { answer = t.answer; bytes = t.bytes; numbers = t.numbered }
