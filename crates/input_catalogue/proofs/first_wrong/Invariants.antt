-- `first_wrong` searches. The loop's invariant: the search of every test that the closure computes has come to i + 1.
use Rattle.std.proofs.Common.{◌≡◌, ℕ, ◌+◌, ◌≤◌, Bool}
use Rattle.spec_laws.specs.SearchLaws.{Searching}
use Rattle.input_catalogue.proofs.first_wrong.Given as goal

abbrev pub invariant-loop-i : goal.invariant-loop-i
invariant-loop-i g l =
    (p : ℕ → Bool) → ((i : ℕ) (b : Bool) → 1 ≤ i → i ≤ l.n → g.F.Fn.post l.wrong (i, tt) b → b ≡ p i)
    → Searching p l.n 1 (l.i + 1)
