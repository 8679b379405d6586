-- What the search for a byte that does not pass finds: its place, if there is one.
use Rattle.std.specs.Prelude.{ℕ, None, Some}
use Rattle.std.specs.Prelude.{Option as Found}
use Rattle.std.proofs.Math.Option.{Option, none, some}

abbrev pub told_place : Found ℕ → Option ℕ
told_place None = none
told_place (Some i) = some i
