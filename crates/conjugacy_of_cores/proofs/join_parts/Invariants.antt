-- The loop's invariant: the row is as long as it was, and under every catalogue the apexes passed are joined, their
-- lead-ins stand in the row, and their rounds are counted. Assumes nothing.
use Prim.Native.Nat.{ℕ}
use mathlib.Core.Path.{◌≡◌}
use mathlib.Core.List.{List}
use lib.ListN.{length}
use Rattle.conjugacy_of_cores.specs.Pair.{Groups, Joinable, Sofar}
use Rattle.conjugacy_of_cores.proofs.join_parts.Given as goal

abbrev pub invariant-loop-k : goal.invariant-loop-k
invariant-loop-k l =
    (length l.row ≡ length l.initial.row) × ((c x y : List ℕ)
    → Groups c x y l.one.word.now l.one.starts.now l.two.word.now l.two.starts.now → Joinable c l.conflicts x y l.parts.flags l.parts.labels l.initial.row l.at
    → Sofar c x y l.parts.flags l.parts.labels l.initial.row l.at l.row l.end l.most l.k)
