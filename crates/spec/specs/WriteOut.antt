-- The call that writes a text out (docs/MANUAL.md, "Notation"): the lines of the table that can refuse it, in their
-- order, then its answer and the final bytes of its area.
use Rattle.std.specs.Prelude.{ℕ, ◌-◌, List, [], ◌∷◌, ◌++◌, length, ltb}
use Rattle.std.proofs.Math.Option.{Option}
use Rattle.spec.specs.Table.{Line, line, holds, first_line, line_at, Answer, or_else}
use Rattle.spec.specs.Catalogue.{commands, catalogue_lines}
use Rattle.spec.specs.Calls.{plan_limit, area_line, area_after}
use Rattle.spec.specs.Notation.{Items, tokens, plan_of, size_of, first_above, first_deep}
use Rattle.spec.specs.Scanner.{start, run, said, wrong_left}

-- what a text says
abbrev pub items_of : List ℕ → Items
items_of s = said (run start (tokens s))

-- line 13: no text, at the first byte after which no ending could mend it, or at its length
abbrev pub text_line : List ℕ → Option Line
text_line s = line_at 13 1 (λ l. length s - l) (wrong_left (run start (tokens s)))

-- line 14: the first bracket that nests deeper than 8
abbrev pub nesting_line : List ℕ → Option Line
nesting_line s = line_at 14 1 (λ i. i) (first_deep 0 0 (tokens s))

-- line 8: the first digit of the first command above N
abbrev pub above_line : ℕ → List ℕ → Option Line
above_line n s = line_at 8 1 (λ l. length s - l) (first_above n (items_of s))

-- line 15: the plan written out is over 1,024 bytes
abbrev pub written_line : List ℕ → Option Line
written_line s = holds (ltb plan_limit (size_of (items_of s))) (line 15 1 0)

abbrev pub text_lines : List ℕ → List ℕ → List (Option Line)
text_lines c s =
    catalogue_lines c ++ text_line s ∷ nesting_line s ∷ above_line (commands c) s ∷ written_line s ∷ []

-- the fault of a catalogue and a text: the first of these lines that holds
abbrev pub text_fault : List ℕ → List ℕ → Option Line
text_fault c s = first_line (text_lines c s)

abbrev pub write_out_lines : List ℕ → List ℕ → List ℕ → List (Option Line)
write_out_lines c s area = text_lines c s ++ area_line 0 (size_of (items_of s)) area ∷ []

abbrev pub write_out_answer : List ℕ → List ℕ → List ℕ → Answer ℕ
write_out_answer c s area = or_else (first_line (write_out_lines c s area)) (size_of (items_of s))

abbrev pub write_out_area : List ℕ → List ℕ → List ℕ → List ℕ
write_out_area c s area = area_after (first_line (write_out_lines c s area)) (plan_of (items_of s)) area
