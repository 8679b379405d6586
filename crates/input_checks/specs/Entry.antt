-- What the checks before a call promise: the answer that the lines give, and what holds where none of them refuses.
use Rattle.std.specs.Prelude.{ℕ, ◌≤◌, ◌≡◌, List, ◌++◌, length, Result, Err}
use Rattle.std.proofs.Math.Option.{Option, none}
use Rattle.spec.specs.Table.{Line, Answer, refused, first_line, or_else, line_of}
use Rattle.input_catalogue.specs.Checked.{told_checked}
use Rattle.spec.specs.declared.Refusal.{Refusal}
use Rattle.spec.specs.Catalogue.{commands, catalogue_lines}
use Rattle.spec.specs.Plan.{plan_lines, Passing}
use Rattle.input_checks.specs.Passed.{Passed}
use Rattle.spec.specs.Calls.{plan_limit}
use Rattle.spec.specs.Loops.{lead_in_limit}

-- the answer r is refused by the first of these lines that holds; where none does it carries the number of commands of
-- catalogue c
pub record Told (c : List ℕ) (ls : List (Option Line)) (r : Result ℕ Refusal) : Type 0 where
  pub is : told_checked r ≡ or_else (first_line ls) (commands c)

-- and then P holds
pub record Entered (c : List ℕ) (ls : List (Option Line)) (P : Type 0) (r : Result ℕ Refusal) : Type 0 where
  pub told : Told c ls r
  pub passed : first_line ls ≡ none → P

-- lines 1 to 8 and 17 for the first plan, and for both
abbrev pub one_lines : List ℕ → List ℕ → List (Option Line)
one_lines c v = catalogue_lines c ++ plan_lines 1 plan_limit (commands c) v

abbrev pub two_lines : List ℕ → List ℕ → List ℕ → List (Option Line)
two_lines c v w = one_lines c v ++ plan_lines 2 plan_limit (commands c) w

abbrev pub OnePlan : List ℕ → List ℕ → List (List ℕ) → Result ℕ Refusal → Type 0
OnePlan c v rows = Entered c (one_lines c v) (Passed c rows v)

abbrev pub TwoPlans : List ℕ → List ℕ → List ℕ → List (List ℕ) → Result ℕ Refusal → Type 0
TwoPlans c v w rows = Entered c (two_lines c v w) (Passed c rows v × Passed c rows w)

-- a lead-in that passes lines 7 and 8
abbrev pub PassedLeadIn : List ℕ → List ℕ → Type 0
PassedLeadIn c u = (length u ≤ lead_in_limit) × Passing (commands c) u

abbrev pub three_lines : List ℕ → List ℕ → List ℕ → List ℕ → List (Option Line)
three_lines c v w u = two_lines c v w ++ plan_lines 3 lead_in_limit (commands c) u

abbrev pub ThreePlans : List ℕ → List ℕ → List ℕ → List ℕ → List (List ℕ) → Result ℕ Refusal → Type 0
ThreePlans c v w u rows = Entered c (three_lines c v w u) ((Passed c rows v × Passed c rows w) × PassedLeadIn c u)

-- for callers: the answer is the refusal of the check, where that is refused
abbrev pub SameRefusal : {A : Type 0} → Result ℕ Refusal → Answer A → Type 0
SameRefusal r a = (f : Refusal) → r ≡ Err f → a ≡ refused (line_of f)
