-- `conjugacy_labels::merge` meets its contract. Assumes nothing.
use Rattle.std.proofs.Common.{◌≤◌, ◌+◌, Bool, true, false, arith}
use Rattle.spec.specs.Answers.{yes_no}
use Rattle.spec.specs.Conflict.{conflict}
use Rattle.conjugacy_labels.specs.MergeLaws.{merged_none, merged_apart, merged_both}
use Rattle.conjugacy_labels.proofs.merge.Goals as goal

at_most_one : (t : Bool) → yes_no t ≤ 1
at_most_one true = omega arith
at_most_one false = omega arith

pub returns-then-flags-j-ne1 : goal.returns-then-flags-j-ne1
returns-then-flags-j-ne1 c =
    let a = c.args in
    λ c' lab t h. merged_none c' a.flags.now _ a.j c.if-flags-j-ne1.true h

pub returns-then-line-j-eq0 : goal.returns-then-line-j-eq0
returns-then-line-j-eq0 c =
    let a = c.args in
    λ c' lab t h. merged_apart c' a.flags.now _ a.j c.if-flags-j-ne1.false
    (omega (arith, t a.j c.requires.1, at_most_one (conflict c' (a.i + 1) (a.j + 1)))) h

pub returns : goal.returns
returns c =
    let a = c.args in
    λ c' lab t h. merged_both c' lab a.flags.now _ a.j c.if-flags-j-ne1.false
    (λ z. omega (arith, t a.j c.requires.1, z))
    (c.unite.ensures lab h)
