-- What joining one part of two cores asks and gives. Its lead-in is written behind what stands in a row.
use Rattle.std.specs.Prelude.{ℕ, ◌+◌, ◌*◌, ◌≤◌, max, ◌≡◌, true, false, List, [], ◌++◌, length, take}
use Rattle.std.specs.Prelude.{Option, MatchOption}
use Rattle.spec.specs.Catalogue as Catalogue
use Rattle.theory_words.specs.Group.{undo}
use Rattle.spec.specs.Letters.{alphabet}
use Rattle.theory_conjugacy.specs.AscendingLaws.{◌∈◌}
use Rattle.theory_conjugacy.specs.Part.{commands, apexes, part}
use Rattle.theory_conjugacy.specs.Rotation.{rotation}
use Rattle.theory_conjugacy.specs.Decision.{rotated?, parts_joined?}
use Rattle.theory_conjugacy.specs.LeadIn.{place, parts_lead}
use Rattle.theory_conjugacy.specs.Rounds.{most_rounds}
use Rattle.conjugacy_settled_parts.specs.PartOf.{Cyclic}
use Rattle.conjugacy_of_parts.specs.declared.Outcome.{Outcome}

-- the letters cycled stand between two places, and behind them the row has room for the ring
pub record RingsRoom (ring row : List ℕ) (from at : ℕ) : Type 0 where
  pub ordered : from ≤ at
  pub room : at + length ring ≤ length row

-- the ring is a rotation of the other, and behind the first `at` bytes now stand, up to `end`, the ring up to the place
-- at which they agree and the letters cycled, undone
pub record RingsJoined (c ring other cycled before : List ℕ) (at : ℕ) (after : List ℕ) (end : ℕ) : Type 0 where
  pub joined : rotated? (alphabet c) ring other ≡ true
  pub written : take end after
      ≡ take at before ++ (take (place (rotation (alphabet c) ring other)) ring ++ undo (alphabet c) cycled [])
  pub ends : end ≡ at + length (take (place (rotation (alphabet c) ring other)) ring ++ undo (alphabet c) cycled [])

-- what the end of a way says of two rings: they are rotations of one another and the way is written, or they are none
abbrev pub RingsOutcome : List ℕ → List ℕ → List ℕ → List ℕ → List ℕ → ℕ → List ℕ → Option ℕ → Type 0
RingsOutcome c ring other cycled before at after o =
    MatchOption o (rotated? (alphabet c) ring other ≡ false) (RingsJoined c ring other cycled before at after)

-- two cores in which the same commands occur
pub record Two (c : List ℕ) (conflicts : List (List ℕ)) (core1 core2 : List ℕ) : Type 0 where
  pub first : Cyclic c conflicts core1
  pub second : Cyclic c conflicts core2
  pub same : commands (alphabet c) core1 ≡ commands (alphabet c) core2

-- one part of both, p and q: the apex is one of the first core, and the row has room behind place `at` for what as many
-- rounds as commands cycle of both
pub record Partable (c : List ℕ) (conflicts : List (List ℕ)) (core1 core2 : List ℕ) (apex : ℕ) (p q row : List ℕ)
    (at : ℕ) : Type 0 where
  pub two : Two c conflicts core1 core2
  pub apical : apex ∈ apexes (alphabet c) core1
  pub one : p ≡ part (alphabet c) apex core1
  pub other : q ≡ part (alphabet c) apex core2
  pub room :
      at
      + Catalogue.commands c
      * (length (part (alphabet c) apex core1) + length (part (alphabet c) apex core2))
      ≤ length row

-- the parts with these apexes are joined, and behind the first `at` bytes now stand their lead-ins, up to `end`
pub record PartsJoined (c core1 core2 ms before : List ℕ) (at : ℕ) (after : List ℕ) (end : ℕ) : Type 0 where
  pub joined : parts_joined? (alphabet c) ms core1 core2 ≡ true
  pub written : take end after ≡ take at before ++ parts_lead (alphabet c) ms core1 core2
  pub ends : end ≡ at + length (parts_lead (alphabet c) ms core1 core2)

-- the most rounds that the parts with these apexes need, in one core or the other
abbrev pub both_rounds : List ℕ → List ℕ → List ℕ → List ℕ → ℕ
both_rounds c ms core1 core2 = max (most_rounds (alphabet c) ms core1) (most_rounds (alphabet c) ms core2)

-- what an outcome says of the parts with these apexes
abbrev pub PartsOutcome : List ℕ → List ℕ → List ℕ → List ℕ → List ℕ → ℕ → List ℕ → Outcome → Type 0
PartsOutcome c x y ms before at after o =
    MatchOption o.end (parts_joined? (alphabet c) ms x y ≡ false) (PartsJoined c x y ms before at after)
    × (o.rounds ≡ both_rounds c ms x y)
