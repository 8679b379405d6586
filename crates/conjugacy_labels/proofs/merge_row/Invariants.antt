-- `conjugacy_labels::merge_row` meets its contract. The loop's invariant: what is left of the row, from j on, leads to
-- the labels of the whole row. Assumes nothing.
use Rattle.std.proofs.Common.{ℕ, ◌+◌, ◌≡◌, List, length}
use Rattle.spec.specs.Letters.{alphabet}
use Rattle.theory_conjugacy.specs.Part.{merge_row}
use Rattle.conjugacy_labels.specs.Labels.{LabelsOf}
use Rattle.conjugacy_labels.specs.Merge.{LineOf}
use Rattle.conjugacy_labels.specs.MergeLaws.{Folding}
use Rattle.conjugacy_labels.proofs.merge_row.Given as goal

abbrev pub invariant-loop-j : goal.invariant-loop-j
invariant-loop-j l =
    (c : List ℕ) (lab : ℕ → ℕ) → length l.flags ≡ 24 → LineOf c l.i l.line → LabelsOf lab l.initial.labels
    → Folding (merge_row (alphabet c) (l.i + 1)) l.flags lab l.labels l.j
