-- Texts of the beacon team's notation as one table (docs/MANUAL.md, "Notation"), and the sentence that the definitions
-- of the calls on texts yield each row; the crate notation_laws proves it (TextCasesHold).
use Rattle.std.specs.Prelude.{ℕ, ◌≡◌, List, [], ◌∷◌, length, replicate}
use Rattle.std.proofs.Math.Option.{none, some}
use Rattle.spec.specs.Table.{Line, line, refused, given}
use Rattle.spec.specs.Listing.{bytes}
use Rattle.spec.specs.WriteOut.{text_fault, write_out_answer, write_out_area}

-- the catalogue of n commands without conflicts
abbrev pub free : ℕ → List ℕ
free n = n ∷ 0 ∷ replicate n 0

-- a row of the table, under the catalogue of so many commands
pub data Row : Type 0 where
  -- a text and the plan that it writes out
  writes : ℕ → List ℕ → List ℕ → Row
  -- a text and the line that refuses it, whatever the area
  refuses : ℕ → List ℕ → Line → Row
  -- a text, and an area of so many bytes that is too small for its plan
  lacks : ℕ → List ℕ → ℕ → Row

-- the row is what the definitions of the calls yield; a plan is written in an area that is just large enough
abbrev pub Yields : Row → Type 0
Yields (writes n s z) =
    (text_fault (free n) s ≡ none)
    × (write_out_answer (free n) s (replicate (length z) 0) ≡ given (length z))
    × (write_out_area (free n) s (replicate (length z) 0) ≡ z)
Yields (refuses n s l) =
    (text_fault (free n) s ≡ some l)
    × ((area : List ℕ) → write_out_answer (free n) s area ≡ refused l)
    × ((area : List ℕ) → write_out_area (free n) s area ≡ area)
Yields (lacks n s room) =
    (text_fault (free n) s ≡ none)
    × (write_out_answer (free n) s (replicate room 0) ≡ refused (line 9 0 0))
    × (write_out_area (free n) s (replicate room 0) ≡ replicate room 0)

abbrev pub Every : List Row → Type 0
Every [] = Unit {0}
Every (r ∷ rs) = Yields r × Every rs

-- the manual's −1, −2 and −24
abbrev pub undo1 : ℕ
undo1 = 129

abbrev pub undo2 : ℕ
undo2 = 130

abbrev pub undo24 : ℕ
undo24 = 152

-- a number of the table, as plan 1, at a place of the text
abbrev pub line13 : ℕ → Line
line13 i = line 13 1 i

abbrev pub line14 : ℕ → Line
line14 i = line 14 1 i

abbrev pub line8 : ℕ → Line
line8 i = line 8 1 i

abbrev pub line15 : Line
line15 = line 15 1 0

-- texts that write out the empty plan
abbrev pub empty_texts : List Row
empty_texts =
    writes 24 (bytes "") []
    ∷ writes 24 (bytes "()") []
    ∷ writes 24 (bytes "( )") []
    ∷ writes 24 (bytes "   ") []
    ∷ writes 24 (bytes "(1)0") []
    ∷ writes 24 (bytes "-(1)0") []
    ∷ writes 24 (bytes "(((1)255)255)0") []
    ∷ writes 24 (bytes "(1 2 3)0") []
    ∷ writes 0 (bytes "") []
    ∷ writes 0 (bytes "(( ) -())9") []
    ∷ []

abbrev pub plans : List Row
plans =
    writes 24 (bytes "1 24 -1 -24") (1 ∷ 24 ∷ undo1 ∷ undo24 ∷ [])
    ∷ writes 24 (bytes "(1 -2)3") (1 ∷ undo2 ∷ 1 ∷ undo2 ∷ 1 ∷ undo2 ∷ [])
    ∷ writes 24 (bytes "-(1 2)") (undo2 ∷ undo1 ∷ [])
    ∷ writes 24 (bytes "-(1 2)2") (undo2 ∷ undo1 ∷ undo2 ∷ undo1 ∷ [])
    ∷ writes 24 (bytes "(1)2 3") (1 ∷ 1 ∷ 3 ∷ [])
    ∷ writes 24 (bytes "(1) 2") (1 ∷ 2 ∷ [])
    ∷ writes 24 (bytes " 1  2 ") (1 ∷ 2 ∷ [])
    ∷ writes 24 (bytes "-(-1 -(2 3)2)") (2 ∷ 3 ∷ 2 ∷ 3 ∷ 1 ∷ [])
    ∷ writes 24 (bytes "-(-(-1))") (undo1 ∷ [])
    ∷ writes 24 (bytes "((1)2 -(3 4)0 5)2") (1 ∷ 1 ∷ 5 ∷ 1 ∷ 1 ∷ 5 ∷ [])
    ∷ writes 24 (bytes "((((((((1 2))))))))") (1 ∷ 2 ∷ [])
    ∷ writes 24 (bytes "-(-(-(-(-(-(-(-(1 2)2)))))))") (1 ∷ 2 ∷ 1 ∷ 2 ∷ [])
    ∷ writes 24 (bytes "((1)16)64") (replicate 1024 1)
    ∷ writes 4 (bytes "1 (4)0 4") (1 ∷ 4 ∷ [])
    ∷ []

-- texts that are wrong, at the first byte after which no ending could mend them or at their length
abbrev pub wrong_texts : List Row
wrong_texts =
    refuses 24 (bytes "0") (line13 0)
    ∷ refuses 24 (bytes "01") (line13 0)
    ∷ refuses 24 (bytes ")") (line13 0)
    ∷ refuses 24 (0 ∷ []) (line13 0)
    ∷ refuses 24 (bytes "25") (line13 1)
    ∷ refuses 24 (bytes "30") (line13 1)
    ∷ refuses 24 (bytes "1-2") (line13 1)
    ∷ refuses 24 (bytes "1(2)") (line13 1)
    ∷ refuses 24 (bytes "--1") (line13 1)
    ∷ refuses 24 (bytes "- 1") (line13 1)
    ∷ refuses 24 (bytes "-)") (line13 1)
    ∷ refuses 24 (bytes "1)") (line13 1)
    ∷ refuses 24 (bytes "-") (line13 1)
    ∷ refuses 24 (bytes "(") (line13 1)
    ∷ refuses 24 (bytes "1\t") (line13 1)
    ∷ refuses 24 (bytes "123") (line13 2)
    ∷ refuses 24 (bytes "(25)0") (line13 2)
    ∷ refuses 24 (bytes "(-)") (line13 2)
    ∷ refuses 24 (bytes "(-") (line13 2)
    ∷ refuses 24 (bytes "(1") (line13 2)
    ∷ refuses 24 (bytes "(1)-2") (line13 3)
    ∷ refuses 24 (bytes "1 -") (line13 3)
    ∷ refuses 24 (bytes "(1)00") (line13 4)
    ∷ refuses 24 (bytes "(1)01") (line13 4)
    ∷ refuses 24 (bytes "(1)2(3)") (line13 4)
    ∷ refuses 24 (bytes "(1)256") (line13 5)
    ∷ refuses 24 (bytes "(1)260") (line13 5)
    ∷ refuses 24 (bytes "1 (((((((((25") (line13 12)
    ∷ refuses 24 (bytes "(((((((((1))))))))") (line13 18)
    ∷ []

-- brackets nine deep; commands above N; plans that are too long
abbrev pub refused_texts : List Row
refused_texts =
    refuses 24 (bytes "(((((((((1)))))))))") (line14 8)
    ∷ refuses 24 (bytes "((((((((()))))))))") (line14 8)
    ∷ refuses 24 (bytes "(((((((((1)0))))))))") (line14 8)
    ∷ refuses 24 (bytes "(((((((((1)))))))))0") (line14 8)
    ∷ refuses 4 (bytes "(((((((((5)))))))))") (line14 8)
    ∷ refuses 4 (bytes "5") (line8 0)
    ∷ refuses 4 (bytes "-5") (line8 1)
    ∷ refuses 4 (bytes "(24)0") (line8 1)
    ∷ refuses 4 (bytes "1 (5)0 6") (line8 3)
    ∷ refuses 4 (bytes "((((1)255)255)255)255 7") (line8 22)
    ∷ refuses 0 (bytes "1") (line8 0)
    ∷ refuses 24 (bytes "((((1)255)255)255)255") line15
    ∷ refuses 24 (bytes "((1)16)64 2") line15
    ∷ refuses 24 (bytes "((1)205)5") line15
    ∷ refuses 25 (bytes ")") (line 2 0 0)
    ∷ []

abbrev pub small_areas : List Row
small_areas =
    lacks 24 (bytes "((1)16)64") 1023
    ∷ lacks 24 (bytes " 1  2 ") 1
    ∷ lacks 24 (bytes "-(1 2)2") 3
    ∷ lacks 24 (bytes "1") 0
    ∷ []

-- the sentence: every row of these tables is what the definitions yield
abbrev pub TextCases : Type 0
TextCases = Every empty_texts × Every plans × Every wrong_texts × Every refused_texts × Every small_areas
