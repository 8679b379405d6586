-- What the program asks of the core call: the number of letters in the core of a plan.
use Rattle.std.specs.Prelude.{ℕ, List, length}
use Rattle.std.proofs.Math.Option.{Option, some}
use Rattle.spec.specs.Table.{Answer, first_line, or_else}
use Rattle.spec.specs.Calls.{core_form}
use Rattle.spec.specs.Program.{core_lines}

-- refused, or the number of letters in the core of v
abbrev pub core_verdict : List ℕ → List ℕ → Answer (Option ℕ)
core_verdict c v = or_else (first_line (core_lines c v)) (some (length (core_form c v)))
