-- The manual's starred cases as one table, and the sentence that the definitions of the calls yield each row;
-- the crate spec_laws proves it (CasesHold).
use Rattle.std.specs.Prelude.{ℕ, ◌/◌, ◌≡◌, Bool, true, false, List, [], ◌∷◌, ◌++◌, length, drop, replicate}
use Rattle.std.proofs.Math.Option.{none, some}
use Rattle.spec.specs.Table.{Answer, given, refused, line, NoneHolds}
use Rattle.spec.specs.Calls.{normal_form_answer, normal_form_area, core_answer, core_area, equal_answer}
use Rattle.spec.specs.Calls.{paired_answer, paired_area, paired_numbers}
use Rattle.spec.specs.Slots.{slots_answer, slots_area, slots_numbers}
use Rattle.spec.specs.Precedence.{precedence_answer}
use Rattle.spec.specs.Loops.{lead_in_room, loops_lines, Looped, check_answer, check_area0, check_area1}

-- catalogue K: conflicts 1-2, 2-3, 3-4
abbrev pub K : List ℕ
K = 4 ∷ 3 ∷ 1 ∷ 2 ∷ 3 ∷ 0 ∷ 2 ∷ 0 ∷ 3 ∷ 0 ∷ 4 ∷ 0 ∷ []

-- the manual's −1, −2 and −3: the undos of commands 1, 2 and 3
abbrev pub undo1 : ℕ
undo1 = 129

abbrev pub undo2 : ℕ
undo2 = 130

abbrev pub undo3 : ℕ
undo3 = 131

-- a row of the table, under catalogue K
pub data Row : Type 0 where
  -- a plan and its normal form
  normal : List ℕ → List ℕ → Row
  -- a plan, its normal form, and the places of the letters that cancel, two by two
  pairs : List ℕ → List ℕ → List ℕ → Row
  -- a plan, its normal form, the slots of that, and how many are in use
  slots : List ℕ → List ℕ → List ℕ → ℕ → Row
  -- a plan, places in its normal form, two by two, and whether the first of each two stays before the second
  precedence : List ℕ → List ℕ → Bool → Row
  -- a plan, places, and the number of the first faulty pair
  places : List ℕ → List ℕ → ℕ → Row
  -- a plan and its core, in normal form
  cored : List ℕ → List ℕ → Row
  -- two equal plans
  equal : List ℕ → List ℕ → Row
  -- two joined loops v and w, a lead-in u that may be written, the normal form of v·u and of u·w, and the rounds
  joined : List ℕ → List ℕ → List ℕ → List ℕ → ℕ → Row
  -- two loops that are apart, and the rounds
  apart : List ℕ → List ℕ → ℕ → Row

-- what a call answers and leaves in its area
abbrev pub Writes : Answer ℕ → List ℕ → List ℕ → List ℕ → Type 0
Writes answer after area z = (answer ≡ given (length z)) × (after ≡ z ++ drop (length z) area)

-- an area of N(n + m) bytes
abbrev pub room : List ℕ → List ℕ → List ℕ
room v w = replicate (lead_in_room K v w) 0

-- the row is what the definitions of the calls yield, in areas that are just large enough
abbrev pub Yields : Row → Type 0
Yields (normal v z) = Writes (normal_form_answer K v v) (normal_form_area K v v) v z
Yields (pairs v z ns) =
    (paired_answer K v v v ≡ given (record { length = length z; pairs = length ns / 2 }))
    × (paired_area K v v v ≡ z ++ drop (length z) v)
    × (paired_numbers K v v v ≡ ns ++ drop (length ns) v)
Yields (slots v z ns n) =
    (slots_answer K v v v ≡ given (record { length = length z; in_use = n }))
    × (slots_area K v v v ≡ z ++ drop (length z) v)
    × (slots_numbers K v v v ≡ ns ++ drop (length ns) v)
Yields (precedence v ns b) = precedence_answer K v ns ≡ given b
Yields (places v ns p) = precedence_answer K v ns ≡ refused (line 16 0 p)
Yields (cored v z) = Writes (core_answer K v v) (core_area K v v) v z
Yields (equal v w) = equal_answer K v w ≡ given true
Yields (joined v w u z n) =
    NoneHolds (loops_lines K v w (room v w))
    × Looped K v w (room v w) (given (record { lead_in = some (length u); rounds = n }))
    (u ++ drop (length u) (room v w))
    × (check_answer K v w u (v ++ u) (u ++ w) ≡ given (record { yes = true; vu = length z; uw = length z }))
    × (check_area0 K v w u (v ++ u) (u ++ w) ≡ z ++ drop (length z) (v ++ u))
    × (check_area1 K v w u (v ++ u) (u ++ w) ≡ z ++ drop (length z) (u ++ w))
Yields (apart v w n) =
    NoneHolds (loops_lines K v w (room v w))
    × Looped K v w (room v w) (given (record { lead_in = none; rounds = n })) (room v w)

abbrev pub Every : List Row → Type 0
Every [] = Unit {0}
Every (r ∷ rs) = Yields r × Every rs

-- cases 1 to 7 and 9 to 11, the slip about the core that tests only the letters written first and last, rounds, pairs,
-- slots and precedence
abbrev pub starred : List Row
starred =
    normal [] []
    ∷ normal (1 ∷ undo1 ∷ []) []
    ∷ normal (1 ∷ 3 ∷ undo1 ∷ []) (3 ∷ [])
    ∷ normal (1 ∷ 2 ∷ undo1 ∷ []) (1 ∷ 2 ∷ undo1 ∷ [])
    ∷ cored (1 ∷ 2 ∷ undo1 ∷ []) (2 ∷ [])
    ∷ normal (3 ∷ 1 ∷ []) (1 ∷ 3 ∷ [])
    ∷ normal (4 ∷ 2 ∷ 1 ∷ []) (2 ∷ 1 ∷ 4 ∷ [])
    ∷ normal (2 ∷ 4 ∷ 3 ∷ 1 ∷ undo3 ∷ []) (2 ∷ 1 ∷ 4 ∷ [])
    ∷ equal (2 ∷ 4 ∷ 3 ∷ 1 ∷ undo3 ∷ []) (4 ∷ 2 ∷ 1 ∷ [])
    ∷ joined (1 ∷ 2 ∷ []) (2 ∷ 1 ∷ []) (1 ∷ []) (1 ∷ 2 ∷ 1 ∷ []) 1
    ∷ joined (1 ∷ 2 ∷ []) (2 ∷ 1 ∷ []) (undo2 ∷ []) (1 ∷ []) 1
    ∷ apart (1 ∷ []) (undo1 ∷ []) 0
    ∷ apart (1 ∷ 2 ∷ 1 ∷ undo2 ∷ []) (1 ∷ 1 ∷ []) 1
    ∷ joined (1 ∷ 2 ∷ 3 ∷ 4 ∷ []) (1 ∷ 2 ∷ 3 ∷ 4 ∷ []) [] (1 ∷ 2 ∷ 3 ∷ 4 ∷ []) 3
    ∷ apart (1 ∷ []) (1 ∷ 2 ∷ 3 ∷ 4 ∷ []) 3
    ∷ joined [] [] [] [] 0
    ∷ cored (3 ∷ 1 ∷ 2 ∷ undo3 ∷ undo1 ∷ []) (2 ∷ [])
    ∷ pairs [] [] []
    ∷ pairs (0 ∷ 1 ∷ 3 ∷ 0 ∷ undo1 ∷ []) (3 ∷ []) (1 ∷ 4 ∷ [])
    ∷ pairs (2 ∷ 4 ∷ 3 ∷ 1 ∷ undo3 ∷ []) (2 ∷ 1 ∷ 4 ∷ []) (2 ∷ 4 ∷ [])
    ∷ pairs (1 ∷ 2 ∷ undo2 ∷ undo1 ∷ []) [] (1 ∷ 2 ∷ 0 ∷ 3 ∷ [])
    ∷ pairs (1 ∷ undo1 ∷ 1 ∷ undo1 ∷ []) [] (0 ∷ 1 ∷ 2 ∷ 3 ∷ [])
    ∷ pairs (1 ∷ 1 ∷ undo1 ∷ undo1 ∷ []) [] (1 ∷ 2 ∷ 0 ∷ 3 ∷ [])
    ∷ slots [] [] [] 0
    ∷ slots (1 ∷ 3 ∷ 2 ∷ 4 ∷ []) (1 ∷ 3 ∷ 2 ∷ 4 ∷ []) (0 ∷ 0 ∷ 1 ∷ 1 ∷ []) 2
    ∷ slots (1 ∷ 1 ∷ 1 ∷ []) (1 ∷ 1 ∷ 1 ∷ []) (0 ∷ 1 ∷ 2 ∷ []) 3
    ∷ slots (4 ∷ 2 ∷ 3 ∷ 0 ∷ undo3 ∷ 1 ∷ []) (2 ∷ 1 ∷ 4 ∷ []) (0 ∷ 1 ∷ 0 ∷ []) 2
    ∷ precedence [] [] true
    ∷ precedence (1 ∷ 2 ∷ 3 ∷ []) (0 ∷ 2 ∷ []) true
    ∷ precedence (1 ∷ 2 ∷ 3 ∷ []) (0 ∷ 2 ∷ 2 ∷ 1 ∷ []) false
    ∷ precedence (1 ∷ 3 ∷ 2 ∷ []) (0 ∷ 1 ∷ []) false
    ∷ places (1 ∷ 2 ∷ []) (0 ∷ 0 ∷ []) 0
    ∷ places (1 ∷ 2 ∷ []) (1 ∷ 0 ∷ 0 ∷ []) 1
    ∷ places (1 ∷ 2 ∷ []) (0 ∷ 1 ∷ 0 ∷ 2 ∷ []) 1
    ∷ []

-- the sentence: every row of the table is what the definitions yield
abbrev pub StarredCases : Type 0
StarredCases = Every starred
