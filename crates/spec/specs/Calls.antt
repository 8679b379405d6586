-- The calls (docs/MANUAL.md, "Calls"): for each the lines of the table that can refuse it, in their order, and then
-- its answer and the final bytes of its area from what is handed in and the area as it was.
use Rattle.std.specs.Prelude.{ℕ, Bool, List, [], ◌∷◌, ◌++◌, map, length, drop, ltb}
use Rattle.std.proofs.Math.Option.{Option}
use Rattle.spec.specs.Table.{Line, line, holds, first_line, Answer, or_else, or_kept}
use Rattle.theory_words.specs.Alike.{alike?}
use Rattle.theory_words.specs.Normal.{nf}
use Rattle.theory_conjugacy.specs.Core.{core}
use Rattle.spec.specs.Catalogue.{commands, catalogue_lines}
use Rattle.spec.specs.Conflict.{conflict}
use Rattle.spec.specs.Plan.{plan_lines}
use Rattle.spec.specs.Letters.{letters, alphabet, normal_form}
use Rattle.spec.specs.Answers.{yes_no, FormCounts}
use Rattle.spec.specs.Pairs.{reading, pair_numbers}

-- the normal form of the core of a plan
unfoldable pub core_form : List ℕ → List ℕ → List ℕ
core_form c v = nf (alphabet c) (core (alphabet c) (letters v))

-- the longest plan
abbrev pub plan_limit : ℕ
plan_limit = 1024

-- line 9: area i has fewer than `need` bytes or numbers
abbrev pub area_line : ℕ → ℕ → List ℕ → Option Line
area_line i need area = holds (ltb (length area) need) (line 9 0 i)

-- an area after a call: as it was where a line refuses, else the bytes written and past them as it was
abbrev pub area_after : Option Line → List ℕ → List ℕ → List ℕ
area_after o bytes area = or_kept o (bytes ++ drop (length bytes) area) area

-- Reading a catalogue: the number of commands, and a lent table that then tells which commands conflict

abbrev pub catalogue_answer : List ℕ → Answer ℕ
catalogue_answer c = or_else (first_line (catalogue_lines c)) (commands c)

-- the numbers that a command can have
unfoldable pub numbers : List ℕ
numbers =
    1 ∷ 2 ∷ 3 ∷ 4 ∷ 5 ∷ 6 ∷ 7 ∷ 8 ∷ 9 ∷ 10 ∷ 11 ∷ 12
    ∷ 13 ∷ 14 ∷ 15 ∷ 16 ∷ 17 ∷ 18 ∷ 19 ∷ 20 ∷ 21 ∷ 22 ∷ 23 ∷ 24 ∷ []

-- 24 rows of 24 numbers: number b of row a is 1 if a and b conflict, else 0; above N a number conflicts with itself
unfoldable pub conflict_rows : List ℕ → List (List ℕ)
conflict_rows c = map (λ a. map (λ b. yes_no (conflict c a b)) numbers) numbers

abbrev pub catalogue_table : List ℕ → List (List ℕ) → List (List ℕ)
catalogue_table c table = or_kept (first_line (catalogue_lines c)) (conflict_rows c) table

-- Normal form alone, as C callers ask for it

abbrev pub normal_form_lines : List ℕ → List ℕ → List ℕ → List (Option Line)
normal_form_lines c v area =
    catalogue_lines c ++ plan_lines 1 plan_limit (commands c) v ++ area_line 0 (length v) area ∷ []

abbrev pub normal_form_answer : List ℕ → List ℕ → List ℕ → Answer ℕ
normal_form_answer c v area = or_else (first_line (normal_form_lines c v area)) (length (normal_form c v))

abbrev pub normal_form_area : List ℕ → List ℕ → List ℕ → List ℕ
normal_form_area c v area = area_after (first_line (normal_form_lines c v area)) (normal_form c v) area

-- Normal form with its pairs: as the normal form, and the numbers of the pairs in a second area

-- line 12: the second area is smaller than `need` numbers
abbrev pub pairs_line : ℕ → List ℕ → Option Line
pairs_line need pairs = holds (ltb (length pairs) need) (line 12 0 1)

abbrev pub paired_lines : List ℕ → List ℕ → List ℕ → List ℕ → List (Option Line)
paired_lines c v area pairs = normal_form_lines c v area ++ pairs_line (length v) pairs ∷ []

abbrev pub paired_counts : List ℕ → List ℕ → FormCounts
paired_counts c v = record { length = length (normal_form c v); pairs = length (reading c v).pairs }

abbrev pub paired_answer : List ℕ → List ℕ → List ℕ → List ℕ → Answer FormCounts
paired_answer c v area pairs = or_else (first_line (paired_lines c v area pairs)) (paired_counts c v)

abbrev pub paired_area : List ℕ → List ℕ → List ℕ → List ℕ → List ℕ
paired_area c v area pairs = area_after (first_line (paired_lines c v area pairs)) (normal_form c v) area

abbrev pub paired_numbers : List ℕ → List ℕ → List ℕ → List ℕ → List ℕ
paired_numbers c v area pairs = area_after (first_line (paired_lines c v area pairs)) (pair_numbers c v) pairs

-- Core: the normal form of the core, refused and written as the normal form is

abbrev pub core_answer : List ℕ → List ℕ → List ℕ → Answer ℕ
core_answer c v area = or_else (first_line (normal_form_lines c v area)) (length (core_form c v))

abbrev pub core_area : List ℕ → List ℕ → List ℕ → List ℕ
core_area c v area = area_after (first_line (normal_form_lines c v area)) (core_form c v) area

-- Equal

abbrev pub equal_lines : List ℕ → List ℕ → List ℕ → List (Option Line)
equal_lines c v w =
    catalogue_lines c ++ plan_lines 1 plan_limit (commands c) v ++ plan_lines 2 plan_limit (commands c) w

-- yes if the normal forms are the same
abbrev pub equal_answer : List ℕ → List ℕ → List ℕ → Answer Bool
equal_answer c v w = or_else (first_line (equal_lines c v w)) (alike? (normal_form c v) (normal_form c w))
