-- The loops call and the lead-in check (docs/MANUAL.md, "Calls"): the lines of the table that can refuse each, its
-- answer, and the final bytes of its areas. Only the lead-in of two joined loops is left free.
use Rattle.std.specs.Prelude.{ℕ, ◌+◌, ◌*◌, ◌≤◌, ◌≡◌, true, false, List, [], ◌∷◌, ◌++◌, length, drop}
use Rattle.std.proofs.Math.Option.{Option, none, some}
use Rattle.spec.specs.Table.{Line, first_line, Answer, refused, given, or_else}
use Rattle.theory_words.specs.Alike.{alike?}
use Rattle.theory_conjugacy.specs.Decision.{joined?}
use Rattle.spec.specs.Catalogue.{commands, catalogue_lines}
use Rattle.spec.specs.Plan.{plan_lines}
use Rattle.spec.specs.Letters.{letters, alphabet, normal_form}
use Rattle.spec.specs.Join.{Joins}
use Rattle.spec.specs.Calls.{plan_limit, area_line, area_after}
use Rattle.spec.specs.Rounds.{loops_rounds}
use Rattle.spec.specs.Answers.{DecidedLoops, CheckedLeadIn}

-- Loops

-- the room of a lead-in: N(n + m)
abbrev pub lead_in_room : List ℕ → List ℕ → List ℕ → ℕ
lead_in_room c v w = commands c * (length v + length w)

abbrev pub loops_lines : List ℕ → List ℕ → List ℕ → List ℕ → List (Option Line)
loops_lines c v w area =
    catalogue_lines c ++ plan_lines 1 plan_limit (commands c) v ++ plan_lines 2 plan_limit (commands c) w
    ++ area_line 0 (lead_in_room c v w) area ∷ []

-- a lead-in as the loops call writes it: a normal form that joins v to w, within the room
pub record LeadIn (c v w u : List ℕ) : Type 0 where
  pub normal : normal_form c u ≡ u
  pub joins : Joins c v w u
  pub short : length u ≤ lead_in_room c v w

-- the answer and the final area of the loops call; joined and apart alike tell the rounds
pub data Looped (c v w area : List ℕ) : Answer DecidedLoops → List ℕ → Type 0 where
  refuses : {l : Line} → first_line (loops_lines c v w area) ≡ some l → Looped c v w area (refused l) area
  apart : first_line (loops_lines c v w area) ≡ none → joined? (alphabet c) (letters v) (letters w) ≡ false
      → Looped c v w area (given (record { lead_in = none; rounds = loops_rounds c v w })) area
  joined : {u : List ℕ} → first_line (loops_lines c v w area) ≡ none
      → joined? (alphabet c) (letters v) (letters w) ≡ true → LeadIn c v w u
      → Looped c v w area (given (record { lead_in = some (length u); rounds = loops_rounds c v w }))
      (u ++ drop (length u) area)

-- Lead-in check

-- the longest lead-in handed in: 24 × 2,048
abbrev pub lead_in_limit : ℕ
lead_in_limit = 49152

abbrev pub check_lines : List ℕ → List ℕ → List ℕ → List ℕ → List ℕ → List ℕ → List (Option Line)
check_lines c v w u area0 area1 =
    catalogue_lines c ++ plan_lines 1 plan_limit (commands c) v ++ plan_lines 2 plan_limit (commands c) w
    ++ plan_lines 3 lead_in_limit (commands c) u
    ++ area_line 0 (length v + length u) area0 ∷ area_line 1 (length u + length w) area1 ∷ []

-- yes if the normal forms of v·u and u·w are the same, with their lengths
abbrev pub check_result : List ℕ → List ℕ → List ℕ → List ℕ → CheckedLeadIn
check_result c v w u =
    record {
      yes = alike? (normal_form c (v ++ u)) (normal_form c (u ++ w));
      vu = length (normal_form c (v ++ u));
      uw = length (normal_form c (u ++ w));
    }

abbrev pub check_answer : List ℕ → List ℕ → List ℕ → List ℕ → List ℕ → List ℕ → Answer CheckedLeadIn
check_answer c v w u area0 area1 = or_else (first_line (check_lines c v w u area0 area1)) (check_result c v w u)

abbrev pub check_area0 : List ℕ → List ℕ → List ℕ → List ℕ → List ℕ → List ℕ → List ℕ
check_area0 c v w u area0 area1 =
    area_after (first_line (check_lines c v w u area0 area1)) (normal_form c (v ++ u)) area0

abbrev pub check_area1 : List ℕ → List ℕ → List ℕ → List ℕ → List ℕ → List ℕ → List ℕ
check_area1 c v w u area0 area1 =
    area_after (first_line (check_lines c v w u area0 area1)) (normal_form c (u ++ w)) area1
