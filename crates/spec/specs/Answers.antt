-- What a call's answer, a Result, says in the manual's numbers.
use Rattle.std.specs.Prelude.{ℕ, Bool, true, false, Result, Ok, Err}
use Rattle.std.specs.Prelude as rust
use Rattle.std.proofs.Math.Option.{Option, none, some}
use Rattle.spec.specs.Table.{Line, Answer, refused, given, line_of}
use Rattle.spec.specs.declared.Refusal.{Refusal}
use Rattle.spec.specs.declared.NormalForm.{NormalForm}
use Rattle.spec.specs.declared.Loops.{Loops}
use Rattle.spec.specs.declared.LeadIn.{LeadIn}
use Rattle.spec.specs.declared.Slots.{Slots}

-- yes and no as numbers
abbrev pub yes_no : Bool → ℕ
yes_no true = 1
yes_no false = 0

-- what f makes of a result, or a refusal
abbrev pub told : {A B : Type 0} → (A → B) → Result A Refusal → Answer B
told f (Ok a) = given (f a)
told f (Err r) = refused (line_of r)

-- a value of the program's, or nothing
abbrev pub told_option : {A : Type 0} → rust.Option A → Option A
told_option rust.None = none
told_option (rust.Some a) = some a

-- the number of commands, or a refusal
abbrev pub told_catalogue : Result ℕ Refusal → Answer ℕ
told_catalogue = told (λ n. n)

-- the length L of what is written, or a refusal
abbrev pub told_written : Result ℕ Refusal → Answer ℕ
told_written = told (λ l. l)

-- the length of a normal form, with the number of pairs
pub record FormCounts : Type 0 where
  pub length : ℕ
  pub pairs : ℕ

abbrev pub told_normal_form : Result NormalForm Refusal → Answer FormCounts
told_normal_form = told (λ k. record { length = k.length; pairs = k.pairs })

-- yes (true), no (false), or a refusal
abbrev pub told_equality : Result Bool Refusal → Answer Bool
told_equality = told (λ b. b)

-- the length of the lead-in, nothing where the loops are apart; and the number of rounds in either case
pub record DecidedLoops : Type 0 where
  pub lead_in : Option ℕ
  pub rounds : ℕ

abbrev pub told_loops : Result Loops Refusal → Answer DecidedLoops
told_loops = told (λ d. record { lead_in = told_option d.lead_in; rounds = d.rounds })

-- yes or no, with the lengths of both normal forms
pub record CheckedLeadIn : Type 0 where
  pub yes : Bool
  pub vu : ℕ
  pub uw : ℕ

abbrev pub told_lead_in : Result LeadIn Refusal → Answer CheckedLeadIn
told_lead_in = told (λ k. record { yes = k.yes; vu = k.vu; uw = k.uw })

-- the length of a normal form, with the number of slots in use
pub record SlotCounts : Type 0 where
  pub length : ℕ
  pub in_use : ℕ

abbrev pub told_slots : Result Slots Refusal → Answer SlotCounts
told_slots = told (λ k. record { length = k.length; in_use = k.in_use })

-- yes, no, or a refusal
abbrev pub told_precedence : Result Bool Refusal → Answer Bool
told_precedence = told (λ b. b)

-- a line, or none
abbrev pub told_fault : rust.Option Refusal → Option Line
told_fault rust.None = none
told_fault (rust.Some r) = some (line_of r)
