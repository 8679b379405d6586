-- `conjugacy_labels::labels` meets its contract. The loop's invariant: what is left of the rows, from i on, leads to
-- the labels of all. Assumes nothing.
use Rattle.std.proofs.Common.{ℕ, ◌≡◌, List, length}
use Rattle.input_chains.specs.Conflicts.{Conflicts}
use Rattle.spec.specs.Letters.{alphabet}
use Rattle.theory_conjugacy.specs.Part.{merge_all}
use Rattle.conjugacy_commands.specs.Flags.{flagged}
use Rattle.conjugacy_labels.specs.MergeLaws.{Folding}
use Rattle.conjugacy_labels.proofs.labels.Given as goal

abbrev pub invariant-loop-i : goal.invariant-loop-i
invariant-loop-i l =
    (c : List ℕ) → length l.flags ≡ 24 → Conflicts c l.conflicts
    → Folding (λ is. merge_all (alphabet c) is (flagged 1 l.flags)) l.flags (λ k. k) l.labels l.i
