-- What the program loops answers to an input: line 11 where it is badly framed, else the verdict on its two plans, with
-- the number of letters in the core where they are joined.
use Rattle.std.specs.Prelude.{ℕ, Bool, true, false, List, ◌++◌, length}
use Rattle.std.proofs.Math.Option.{Option, none, some}
use Rattle.spec.specs.Table.{Line, line, Answer, refused, first_line, or_else}
use Rattle.theory_conjugacy.specs.Decision.{joined?}
use Rattle.spec.specs.Catalogue.{commands, catalogue_lines}
use Rattle.spec.specs.Plan.{plan_lines}
use Rattle.spec.specs.Letters.{letters, alphabet}
use Rattle.spec.specs.Calls.{plan_limit, core_form}
use Rattle.spec.specs.Framing.{well_framed, catalogue_of, plan1_of, plan2_of}

-- the lines that can refuse one plan; the program's own areas are large enough, so line 9 is not among them
abbrev pub core_lines : List ℕ → List ℕ → List (Option Line)
core_lines c v = catalogue_lines c ++ plan_lines 1 plan_limit (commands c) v

-- the lines that can refuse two plans
abbrev pub program_lines : List ℕ → List ℕ → List ℕ → List (Option Line)
program_lines c v w = core_lines c v ++ plan_lines 2 plan_limit (commands c) w

-- the number of letters in the core if the loops are joined, and nothing if they are apart
abbrev pub joined_step : Bool → ℕ → Option ℕ
joined_step true n = some n
joined_step false n = none

abbrev pub loops_verdict : List ℕ → List ℕ → List ℕ → Answer (Option ℕ)
loops_verdict c v w =
    or_else (first_line (program_lines c v w))
    (joined_step (joined? (alphabet c) (letters v) (letters w)) (length (core_form c v)))

abbrev pub answer_step : Bool → Answer (Option ℕ) → Answer (Option ℕ)
answer_step true a = a
answer_step false a = refused (line 11 0 0)

abbrev pub program_answer : List ℕ → Answer (Option ℕ)
program_answer s = answer_step (well_framed s) (loops_verdict (catalogue_of s) (plan1_of s) (plan2_of s))
