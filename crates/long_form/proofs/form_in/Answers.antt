-- The goals of `long_form::form_in` that the check leaves.
use Rattle.std.proofs.Common.{arith}
use Rattle.long_reduction.specs.ReducingLaws.{reducing_start}
use Rattle.long_form.specs.FormLaws.{form_readable, form_written}
use Rattle.long_form.proofs.form_in.Goals as goal

pub empty-stacks-requires : goal.empty-stacks-requires
empty-stacks-requires g c = omega arith

pub reduce-requires : goal.reduce-requires
reduce-requires g c =
    let (k, f) = c.requires.formable in
    (omega arith, (k, reducing_start f.given f.short c.empty-stacks.ensures))

pub read_off-requires : goal.read_off-requires
read_off-requires g c =
    let (k, f) = c.requires.formable in
    (omega arith, (k, _, form_readable f.fits (c.reduce.ensures k (reducing_start f.given f.short c.empty-stacks.ensures))))

pub returns : goal.returns
returns g c =
    let f = c.requires.formable.1 in
    λ k d. form_written k _ (c.read_off.ensures.read k _
    (form_readable f.fits (c.reduce.ensures k (reducing_start d f.short c.empty-stacks.ensures))))
