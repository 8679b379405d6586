-- `conjugacy_labels::labels` meets its contract. The loop's invariant: what is left of the rows, from i on, leads to
-- the labels of all. Assumes nothing.
use native.Mathlib.Omega.{arith}
use Rattle.conjugacy_labels.specs.MergeLaws.{all_folds, fold_again, fold_end, flags-labels}
use Rattle.conjugacy_labels.proofs.labels.Goals as goal

pub loop-i-preserved : goal.loop-i-preserved
loop-i-preserved c =
    λ c' m t. fold_again (all_folds c' _) _ m _ (omega arith)
    (λ l. c.merge_row.ensures c' l m (λ j u. t.tells _ j (omega arith) u))
    (c.loop-i.invariant c' m t)

pub returns : goal.returns
returns c =
    λ c' ks t f. let h = c.loop-i.invariant c' f.many t in
    flags-labels c' f (fold_end (all_folds c' _) _ f.many _ c.loop-i-test.false h)
