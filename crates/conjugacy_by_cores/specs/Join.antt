-- What joining two plans asks and gives: the lead-in as a word in a row, and then its normal form in the area.
use Rattle.std.specs.Prelude.{ℕ, ◌+◌, ◌*◌, ◌≤◌, ◌≡◌, true, false, List, ◌++◌, length, take, drop}
use Rattle.std.specs.Prelude.{None, Some, MatchOption}
use Rattle.theory_conjugacy.specs.Decision.{joined?}
use Rattle.spec.specs.Catalogue.{commands}
use Rattle.spec.specs.Letters.{letters, alphabet, normal_form}
use Rattle.spec_laws.specs.LettersLaws.{Commands}
use Rattle.input_checks.specs.Passed.{Passed}
use Rattle.spec.specs.Rounds.{loops_rounds}
use Rattle.spec.specs.Loops.{LeadIn, lead_in_room}
use Rattle.conjugacy_by_cores.specs.CoreAndLead.{CoreAndLead}
use Rattle.conjugacy_of_parts.specs.declared.Outcome.{Outcome}

-- two plans that have passed their checks
pub record Plans (c : List ℕ) (conflicts : List (List ℕ)) (v w : List ℕ) : Type 0 where
  pub first : Passed c conflicts v
  pub second : Passed c conflicts w

-- two plans with their cores and the letters taken off in front of those
pub record Cores (c : List ℕ) (conflicts : List (List ℕ)) (v w core1 lead1 core2 lead2 : List ℕ) : Type 0 where
  pub plans : Plans c conflicts v w
  pub first : CoreAndLead c v core1 lead1
  pub second : CoreAndLead c w core2 lead2

-- the room that the word from one plan to the other needs
abbrev pub word_room : List ℕ → List ℕ → List ℕ → List ℕ → List ℕ → ℕ
word_room c core1 lead1 core2 lead2 =
    commands c * ((2 * length lead1 + length core1) + (2 * length lead2 + length core2))

-- the plans are joined, and the row now begins with a word, of so many letters, whose normal form is a lead-in
pub record WordJoined (c v w row : List ℕ) (end : ℕ) : Type 0 where
  pub joined : joined? (alphabet c) (letters v) (letters w) ≡ true
  pub count : end ≡ length (take end row)
  pub letters : Commands (commands c) (take end row)
  pub short : end ≤ lead_in_room c v w
  pub lead_in : LeadIn c v w (normal_form c (take end row))

-- what an outcome says of the plans and the row: such a word stands in it, or the plans are apart; and the rounds
abbrev pub WordOutcome : List ℕ → List ℕ → List ℕ → List ℕ → Outcome → Type 0
WordOutcome c v w row o =
    MatchOption o.end (joined? (alphabet c) (letters v) (letters w) ≡ false) (WordJoined c v w row)
    × (o.rounds ≡ loops_rounds c v w)

-- what an outcome says of the plans and the final area: a lead-in at the start of the area and past it the area as it
-- was, or the area as it was; and the rounds
pub data PlansOutcome (c v w area : List ℕ) : Outcome → List ℕ → Type 0 where
  joined : {u : List ℕ} → joined? (alphabet c) (letters v) (letters w) ≡ true → LeadIn c v w u
      → PlansOutcome c v w area (record { end = Some (length u); rounds = loops_rounds c v w })
      (u ++ drop (length u) area)
  apart : joined? (alphabet c) (letters v) (letters w) ≡ false
      → PlansOutcome c v w area (record { end = None; rounds = loops_rounds c v w }) area

-- plans with these cores, so much room for the word between them, and room for a lead-in in the area
pub record FormRoom (c : List ℕ) (conflicts : List (List ℕ)) (v w core1 lead1 core2 lead2 : List ℕ) (most : ℕ)
    (area : List ℕ) : Type 0 where
  pub cores : Cores c conflicts v w core1 lead1 core2 lead2
  pub word : word_room c core1 lead1 core2 lead2 ≤ most
  pub form : lead_in_room c v w ≤ length area

-- the number of commands, and room for a lead-in in the area
pub record PlansRoom (c v w : List ℕ) (n : ℕ) (area : List ℕ) : Type 0 where
  pub many : n ≡ commands c
  pub form : lead_in_room c v w ≤ length area
