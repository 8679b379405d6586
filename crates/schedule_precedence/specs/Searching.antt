-- What the search for the first faulty pair gives.
use Rattle.std.specs.Prelude.{ℕ, Option, Some, None, ◌*◌, ◌<◌, ◌≡◌, List, length}
use Rattle.std.proofs.Math.Option.{none, some}
use Rattle.spec.specs.Table.{line}
use Rattle.spec.specs.Precedence.{places_line}

-- line 16 of places ns in a normal form of l letters holds at pair r, or at none
pub data FirstPair (l : ℕ) (ns : List ℕ) : Option ℕ → Type 0 where
  found : {r : ℕ} → 2 * r < length ns → places_line l ns ≡ some (line 16 0 r) → FirstPair l ns (Some r)
  nowhere : places_line l ns ≡ none → FirstPair l ns None
