-- `conjugacy_labels::merge_row` meets its contract. The loop's invariant: what is left of the row, from j on, leads to
-- the labels of the whole row. Assumes nothing.
use Prim.Native.Nat.{◌≤◌}
use native.Mathlib.Omega.{arith}
use Rattle.conjugacy_labels.specs.MergeLaws.{row_folds}
use Rattle.conjugacy_labels.specs.MergeLaws.{fold_again, fold_end, row_none, row_some}
use Rattle.conjugacy_labels.proofs.merge_row.Goals as goal

pub returns-then-flags-i-ne1 : goal.returns-then-flags-i-ne1
returns-then-flags-i-ne1 c =
    let a = c.args in
    λ c' lab m t h. row_none c' a.flags.now a.i c.if-flags-i-ne1.true h

pub loop-j-preserved : goal.loop-j-preserved
loop-j-preserved c =
    λ c' lab m t h. fold_again (row_folds c' _) _ m _ (omega arith) (λ l. c.merge.ensures c' l t)
    (c.loop-j.invariant c' lab m t h)

pub returns : goal.returns
returns c =
    let a = c.args in
    let u : 24 ≤ c.loop-j.j = omega arith in
    λ c' lab m t h. row_some c' lab a.flags.now a.i c.if-flags-i-ne1.false
    (fold_end (row_folds c' _) _ m _ u (c.loop-j.invariant c' lab m t h))
