-- `conjugacy_labels::relabel` meets its contract. The loop's invariant: the labels passed are renamed, the others are as
-- they were. Assumes nothing.
use Rattle.std.proofs.Common.{◌≡◌, length}
use Rattle.conjugacy_labels.specs.MergeLaws.{Relabelling}
use Rattle.conjugacy_labels.proofs.relabel.Given as goal

abbrev pub invariant-loop-label : goal.invariant-loop-label
invariant-loop-label l =
    length l.initial.labels ≡ 24 → Relabelling l.low l.high l.initial.labels l.labels l.label-index
