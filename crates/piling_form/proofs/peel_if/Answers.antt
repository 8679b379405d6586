-- `piling_form::peel_if` meets its contract: pairs are taken off, or all is left. Assumes nothing.
use mathlib.Core.Path.{refl}
use lib.ListN.{replicate}
use Rattle.piling_form.specs.Coring.{peeled, whole}
use Rattle.piling_form.proofs.peel_if.Goals as goal

pub peel-requires : goal.peel-requires
peel-requires c =
    let (k, x, p) = c.requires in
    (k, x, p c.row-lead.result c.row-lead.ensures)

pub returns-then-cored : goal.returns-then-cored
returns-then-cored c = λ k x p.
    let q = c.peel.ensures.peeled k x (p c.row-lead.result c.row-lead.ensures) in
    (q.0, rw c.if-cored.true (peeled q.1))

pub returns-else-cored : goal.returns-else-cored
returns-else-cored c = λ k x p. (x, rw c.if-cored.false (whole (p (replicate 512 0) refl).left))
