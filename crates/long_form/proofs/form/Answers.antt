-- The goals of `long_form::form` that the check leaves.
use Rattle.long_form.specs.FormingLaws.{empty_formed}
use Rattle.long_form.proofs.form.Goals as goal

pub returns-in-0 : goal.returns-in-0
returns-in-0 c k g = empty_formed k _ c.in-0.is
