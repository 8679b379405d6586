-- The fault call: what is wrong with a catalogue and up to three plans, empty where a call has fewer.
use Rattle.std.specs.Prelude.{ℕ, List, [], ◌∷◌, ◌++◌}
use Rattle.std.proofs.Math.Option.{Option, none, some}
use Rattle.spec.specs.Table.{Line, first_line}
use Rattle.spec.specs.Catalogue.{commands, catalogue_lines}
use Rattle.spec.specs.Plan.{plan_lines}
use Rattle.spec.specs.Calls.{plan_limit}
use Rattle.spec.specs.Loops.{lead_in_limit}

-- lines 1 to 8 and 17
abbrev pub fault_lines : List ℕ → List ℕ → List ℕ → List ℕ → List (Option Line)
fault_lines c v w u =
    catalogue_lines c ++ plan_lines 1 plan_limit (commands c) v ++ plan_lines 2 plan_limit (commands c) w
    ++ plan_lines 3 lead_in_limit (commands c) u

-- the first of them that holds
abbrev pub fault_answer : List ℕ → List ℕ → List ℕ → List ℕ → Option Line
fault_answer c v w u = first_line (fault_lines c v w u)

-- two lent numbers afterwards: the plan and the place of the line, and as they were where there is none
abbrev pub fault_numbers : Option Line → List ℕ → List ℕ
fault_numbers none old = old
fault_numbers (some l) old = l.plan ∷ l.place ∷ []
