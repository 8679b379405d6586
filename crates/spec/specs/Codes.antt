-- What the console gets for each answer: a length, or yes (1) or no (0); for loops the lead-in's length plus 1, or 0
-- for apart, without the rounds; for slots the length, with the number in use beside it; and minus the refusal number.
-- Of a fault it gets that number too, or 0 where there is none.
use Rattle.std.specs.Prelude.{ℕ, suc, ◌≡◌, Bool, List, [], ◌∷◌, ℤ, pos, neg_ℤ}
use Rattle.std.proofs.Math.Option.{Option, none, some}
use Rattle.spec.specs.Table.{Line, Answer, refused, given}
use Rattle.spec.specs.Answers.{yes_no, DecidedLoops, CheckedLeadIn, SlotCounts}
use Rattle.spec.specs.Loops.{Looped}

abbrev pub line_code : Line → ℤ
line_code l = neg_ℤ (pos l.number)

abbrev pub code : {A : Type 0} → (A → ℕ) → Answer A → ℤ
code f (given a) = pos (f a)
code f (refused l) = line_code l

abbrev pub lead_in_code : Option ℕ → ℕ
lead_in_code none = 0
lead_in_code (some l) = suc l

abbrev pub length_code : Answer ℕ → ℤ
length_code = code (λ l. l)

abbrev pub equal_code : Answer Bool → ℤ
equal_code = code yes_no

abbrev pub loops_code : Answer DecidedLoops → ℤ
loops_code = code (λ d. lead_in_code d.lead_in)

abbrev pub check_code : Answer CheckedLeadIn → ℤ
check_code = code (λ k. yes_no k.yes)

abbrev pub slots_code : Answer SlotCounts → ℤ
slots_code = code (λ k. k.length)

-- one lent number afterwards: how many slots are in use, and as it was where the call is refused
abbrev pub in_use_number : Answer SlotCounts → List ℕ → List ℕ
in_use_number (given k) old = k.in_use ∷ []
in_use_number (refused l) old = old

abbrev pub precedence_code : Answer Bool → ℤ
precedence_code = equal_code

-- what an answer is refused for, if it is
abbrev pub refused_by : {A : Type 0} → Answer A → Option Line
refused_by (given a) = none
refused_by (refused l) = some l

abbrev pub fault_code : Option Line → ℤ
fault_code none = pos 0
fault_code (some l) = line_code l

-- the number and the final area of the loops call, whose lead-in is left free
pub record LoopedCode (c v w area : List ℕ) (r : ℤ) (after : List ℕ) : Type 0 where
  pub answer : Answer DecidedLoops
  pub looped : Looped c v w area answer after
  pub number : r ≡ loops_code answer
