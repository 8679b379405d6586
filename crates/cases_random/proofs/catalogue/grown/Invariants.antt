-- `grown` keeps the number of commands, and adds a record a turn at most.
use Rattle.std.proofs.Common.{◌≡◌, ◌≤◌}
use Rattle.cases_random.proofs.catalogue.grown.Given as goal

abbrev pub invariant-loop-turn : goal.invariant-loop-turn
invariant-loop-turn l = (l.draft.commands ≡ l.n) × (l.draft.records ≤ l._turn)
