-- What a catalogue says, by its layout (Layout), and lines 1 to 6 and 17 of the manual's table over any bytes.
use Rattle.std.specs.Prelude.{ℕ, zero, suc, ◌+◌, Bool, true, false, not, ◌&&◌, ◌||◌, List, [], ◌∷◌, length, leb, ltb, eqb}
use Rattle.std.proofs.Math.Option.{Option, none, some}
use Rattle.spec.specs.Table.{Line, line, holds, first_of, line_at}
use Rattle.spec.specs.Layout.{byte_at, layout}

-- N and R
abbrev pub commands : List ℕ → ℕ
commands c = (layout c).commands

abbrev pub records : List ℕ → ℕ
records c = (layout c).records

-- the places of the head of command a, and of the command and the next index of record j; an index of two bytes has the
-- place of its low byte
abbrev pub head_place : List ℕ → ℕ → ℕ
head_place c a = (layout c).head_place a

abbrev pub command_place : List ℕ → ℕ → ℕ
command_place c j = (layout c).command_place j

abbrev pub next_place : List ℕ → ℕ → ℕ
next_place c j = command_place c j + 1

abbrev pub within : ℕ → ℕ → ℕ → Bool
within low high b = leb low b && leb b high

-- the head of command a; 0 and a number above N are no commands and have no chain
abbrev pub head_step : Bool → ℕ → ℕ
head_step true h = h
head_step false h = 0

abbrev pub head : List ℕ → ℕ → ℕ
head c a = head_step (within 1 (commands c) a) ((layout c).index_at (head_place c a))

abbrev pub command : List ℕ → ℕ → ℕ
command c j = byte_at c (command_place c j)

abbrev pub next : List ℕ → ℕ → ℕ
next c j = (layout c).index_at (next_place c j)

-- does the chain from index i reach index 0 within n records
unfoldable pub ends : List ℕ → ℕ → ℕ → Bool
ends c zero zero = true
ends c zero (suc i) = false
ends c (suc n) zero = true
ends c (suc n) (suc i) = ends c n (next c (suc i))

-- the commands that stand in the chain from index i, of at most n records
unfoldable pub follow : List ℕ → ℕ → ℕ → List ℕ
follow c zero i = []
follow c (suc n) zero = []
follow c (suc n) (suc i) = command c (suc i) ∷ follow c n (next c (suc i))

-- the commands in the chain of command a; R records are enough (CatalogueLaws, ends_enough)
abbrev pub chain : List ℕ → ℕ → List ℕ
chain c a = follow c (records c) (head c a)

unfoldable pub stands : ℕ → List ℕ → Bool
stands a [] = false
stands a (b ∷ bs) = eqb a b || stands a bs

-- line 1: under 2 bytes, or not 2 + N + 2R; in the second edition under 3, or not 3 + 2N + 3R
abbrev pub size_line : List ℕ → Option Line
size_line c = holds (ltb (length c) (layout c).start || not (eqb (length c) (layout c).size)) (line 1 0 0)

-- line 2: N above 24
abbrev pub count_line : List ℕ → Option Line
count_line c = holds (ltb 24 (commands c)) (line 2 0 0)

-- line 17: R above 1,024, which one byte cannot tell
abbrev pub records_line : List ℕ → Option Line
records_line c = holds (ltb 1024 (records c)) (line 17 0 1)

abbrev pub or_if : Option Line → Option Line → Option Line
or_if none o = o
or_if (some l) o = some l

-- line 3: the first head or next index above R
abbrev pub head_line : List ℕ → Option Line
head_line c = line_at 3 0 (head_place c) (first_of (λ a. ltb (records c) (head c a)) (commands c) 1)

abbrev pub next_line : List ℕ → Option Line
next_line c = line_at 3 0 (next_place c) (first_of (λ j. ltb (records c) (next c j)) (records c) 1)

abbrev pub index_line : List ℕ → Option Line
index_line c = or_if (head_line c) (next_line c)

-- line 4: the first record whose command is 0 or above N
abbrev pub record_line : List ℕ → Option Line
record_line c =
    line_at 4 0 (command_place c)
    (first_of (λ j. eqb (command c j) 0 || ltb (commands c) (command c j)) (records c) 1)

-- line 5: the first command whose chain doesn't end
abbrev pub endless_line : List ℕ → Option Line
endless_line c = line_at 5 0 (head_place c) (first_of (λ a. not (ends c (records c) (head c a))) (commands c) 1)

-- line 6: the first command that stands in its own chain
abbrev pub own_line : List ℕ → Option Line
own_line c = line_at 6 0 (head_place c) (first_of (λ a. stands a (chain c a)) (commands c) 1)

-- lines 1, 2, 17 and 3 to 6, in the table's order
abbrev pub catalogue_lines : List ℕ → List (Option Line)
catalogue_lines c =
    size_line c ∷ count_line c ∷ records_line c ∷ index_line c ∷ record_line c ∷ endless_line c ∷ own_line c ∷ []
