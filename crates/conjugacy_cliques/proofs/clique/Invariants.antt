-- `conjugacy_cliques::clique` meets its contract. The loop's invariant: the lines of the flagged commands passed cover
-- the flags. Assumes nothing.
use Rattle.std.proofs.Common.{ℕ, ◌<◌, ◌≡◌, [], get_or, length}
use Rattle.conjugacy_cliques.specs.Covered.{Covered}
use Rattle.conjugacy_cliques.proofs.clique.Given as goal

abbrev pub invariant-loop-flag : goal.invariant-loop-flag
invariant-loop-flag l =
    (i : ℕ) → i < length l.yielded → get_or l.flags i 0 ≡ 1 → Covered (get_or l.conflicts i []) l.flags
