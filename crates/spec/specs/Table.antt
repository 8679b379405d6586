-- The manual's table as data (docs/MANUAL.md, "Refusals"): a line is a number, a plan and a place, and a call is
-- refused by the first of its lines that holds. What each case of an answer means in these numbers.
use Rattle.std.specs.Prelude.{ℕ, zero, suc, ◌≡◌, Bool, true, false, List, [], ◌∷◌}
use Rattle.std.proofs.Math.Option.{Option, none, some}
use Rattle.spec.specs.declared.Reason.{Reason}
use Rattle.spec.specs.declared.Reason.TheVariants.{CatalogueSize, CommandCount, Index, RecordCommand}
use Rattle.spec.specs.declared.Reason.TheVariants.{EndlessChain, OwnChain, PlanSize, PlanByte, AreaSize}
use Rattle.spec.specs.declared.Reason.TheVariants.{Framing, PairsSize, Text, Nesting, WrittenSize, Places}
use Rattle.spec.specs.declared.Reason.TheVariants.{RecordCount}
use Rattle.spec.specs.declared.Refusal.{Refusal}

-- number, plan and place, as the table has them
pub record Line : Type 0 where
  pub number : ℕ
  pub plan : ℕ
  pub place : ℕ

abbrev pub line : ℕ → ℕ → ℕ → Line
line n p i = record { number = n; plan = p; place = i }

-- the number of each reason; 10 is retired and not used again (Retired)
abbrev pub number_of : Reason → ℕ
number_of CatalogueSize = 1
number_of CommandCount = 2
number_of Index = 3
number_of RecordCommand = 4
number_of EndlessChain = 5
number_of OwnChain = 6
number_of PlanSize = 7
number_of PlanByte = 8
number_of AreaSize = 9
number_of Framing = 11
number_of PairsSize = 12
number_of Text = 13
number_of Nesting = 14
number_of WrittenSize = 15
number_of Places = 16
number_of RecordCount = 17

abbrev pub line_of : Refusal → Line
line_of r = line (number_of r.reason) r.plan r.place

-- what a call answers: a line of the table, or a result
pub data Answer (A : Type 0) : Type 0 where
  refused : Line → Answer A
  given : A → Answer A

-- a line that holds when a test says so
abbrev pub holds : Bool → Line → Option Line
holds true l = some l
holds false l = none

-- the first line that holds
abbrev pub first_line : List (Option Line) → Option Line
first_line [] = none
first_line (none ∷ ls) = first_line ls
first_line (some l ∷ ls) = some l

-- refused by a line, or else the result
abbrev pub or_else : {A : Type 0} → Option Line → A → Answer A
or_else none a = given a
or_else (some l) a = refused l

-- what a call leaves of something lent to it: as it was where a line refuses
abbrev pub or_kept : {A : Type 0} → Option Line → A → A → A
or_kept none new old = new
or_kept (some l) new old = old

-- The first number at or after a start, among so many, that passes a test

abbrev pub found_step : Bool → ℕ → Option ℕ → Option ℕ
found_step true i o = some i
found_step false i o = o

unfoldable pub first_of : (ℕ → Bool) → ℕ → ℕ → Option ℕ
first_of p zero i = none
first_of p (suc n) i = found_step (p i) i (first_of p n (suc i))

-- number n and plan p, with the place that f gives what was found
abbrev pub line_at : ℕ → ℕ → (ℕ → ℕ) → Option ℕ → Option Line
line_at n p f none = none
line_at n p f (some i) = some (line n p (f i))

-- no line holds
abbrev pub NoneHolds : List (Option Line) → Type 0
NoneHolds [] = Unit {0}
NoneHolds (o ∷ ls) = (o ≡ none) × NoneHolds ls

-- l holds, and no line before it
pub data FirstHolds (l : Line) : List (Option Line) → Type 0 where
  now : {ls : List (Option Line)} → FirstHolds l (some l ∷ ls)
  later : {ls : List (Option Line)} → FirstHolds l ls → FirstHolds l (none ∷ ls)
