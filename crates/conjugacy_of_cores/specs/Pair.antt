-- What joining two cores, all parts or one, asks and gives. The lead-ins of the parts are written one after the other
-- behind what stands in a row.
use Rattle.std.specs.Prelude.{ℕ, ◌+◌, ◌*◌, ◌≤◌, max, ◌≡◌, false, List, ◌++◌, length, take, MatchOption}
use Rattle.spec.specs.Catalogue as Catalogue
use Rattle.theory_words.specs.Group.{◌≈◌, conj}
use Rattle.spec.specs.Letters.{alphabet}
use Rattle.spec_laws.specs.LettersLaws.{Commands}
use Rattle.theory_conjugacy.specs.Part.{commands, label, apexes}
use Rattle.theory_conjugacy.specs.PartLaws.{shares}
use Rattle.theory_conjugacy.specs.Decision.{cores_joined?}
use Rattle.theory_conjugacy.specs.Rounds.{core_rounds}
use Rattle.conjugacy_commands.specs.Flags.{Flags}
use Rattle.conjugacy_labels.specs.Labels.{LabelsOf}
use Rattle.conjugacy_parts.specs.Group.{Grouped}
use Rattle.conjugacy_settled_parts.specs.PartOf.{Cyclic}
use Rattle.conjugacy_rounds.specs.Apexes.{apex_at, apexes_from}
use Rattle.conjugacy_of_parts.specs.declared.Outcome.{Outcome}
use Rattle.conjugacy_of_parts.specs.Parts.{Two, PartsJoined, both_rounds}

-- two cores in which the same commands occur: the flags tell which, and the labels are those of both
pub record Flagged (c : List ℕ) (conflicts : List (List ℕ)) (core1 core2 fs labels : List ℕ) : Type 0 where
  pub two : Two c conflicts core1 core2
  pub labelled : LabelsOf (label (alphabet c) core1) labels
  pub flags : Flags (commands (alphabet c) core1) fs

-- both cores, grouped
pub record Groups (c core1 core2 word1 starts1 word2 starts2 : List ℕ) : Type 0 where
  pub first : Grouped c core1 word1 starts1
  pub second : Grouped c core2 word2 starts2

-- all parts: the row has room behind place `at` for their lead-ins
pub record Joinable (c : List ℕ) (conflicts : List (List ℕ)) (core1 core2 fs labels row : List ℕ) (at : ℕ)
    : Type 0 where
  pub flagged : Flagged c conflicts core1 core2 fs labels
  pub room : at + Catalogue.commands c * (length core1 + length core2) ≤ length row

-- the letters of a core in the parts with these apexes
abbrev pub parts_of : List ℕ → List ℕ → List ℕ → List ℕ
parts_of c ms core = shares (alphabet c) (label (alphabet c) core) ms core

-- one command: the row has room behind place `at` for its part, if it is an apex
pub record Placeable (c : List ℕ) (conflicts : List (List ℕ)) (core1 core2 fs labels : List ℕ) (k : ℕ)
    (row : List ℕ) (at : ℕ) : Type 0 where
  pub flagged : Flagged c conflicts core1 core2 fs labels
  pub room :
      at
      + Catalogue.commands c
      * (length (parts_of c (apex_at fs labels k) core1) + length (parts_of c (apex_at fs labels k) core2))
      ≤ length row

-- two whole cores: the row has room behind place `at` for the lead-ins of all parts
pub record Coreable (c : List ℕ) (conflicts : List (List ℕ)) (core1 core2 row : List ℕ) (at : ℕ) : Type 0 where
  pub first : Cyclic c conflicts core1
  pub second : Cyclic c conflicts core2
  pub room : at + Catalogue.commands c * (length core1 + length core2) ≤ length row

-- u conjugates one core to the other, in commands of the catalogue. Its letters and those of the first core are at most
-- 2N times as many as those of the first core.
pub record Conjugator (c core1 core2 u : List ℕ) : Type 0 where
  pub conjugates : ◌≈◌ (alphabet c) (conj (alphabet c) u core1) core2
  pub letters : Commands (Catalogue.commands c) u
  pub short : length u + length core1 ≤ (2 * Catalogue.commands c) * length core1

-- behind the first `at` bytes now stands a conjugator from one core to the other, up to `end`
pub record CoresJoined (c core1 core2 before : List ℕ) (at : ℕ) (after : List ℕ) (end : ℕ) : Type 0 where
  pub word : List ℕ
  pub conjugator : Conjugator c core1 core2 word
  pub written : take end after ≡ take at before ++ word
  pub ends : end ≡ at + length word

-- the most rounds that a part of either core needs
abbrev pub cores_rounds : List ℕ → List ℕ → List ℕ → ℕ
cores_rounds c core1 core2 = max (core_rounds (alphabet c) core1) (core_rounds (alphabet c) core2)

-- what an outcome says of two cores: a conjugator is written, or there is none; every part is counted
abbrev pub CoresOutcome : List ℕ → List ℕ → List ℕ → List ℕ → ℕ → List ℕ → Outcome → Type 0
CoresOutcome c x y before at after o =
    MatchOption o.end (cores_joined? (alphabet c) x y ≡ false) (CoresJoined c x y before at after)
    × (o.rounds ≡ cores_rounds c x y)

-- the apexes up to command k are joined, their lead-ins stand in the row, and their rounds are counted
pub record Sofar (c core1 core2 fs labels before : List ℕ) (at : ℕ) (after : List ℕ) (end most k : ℕ) : Type 0 where
  pub done : List ℕ
  pub left : ℕ
  pub count : left + k ≡ 24
  pub all : done ++ apexes_from fs labels left k ≡ apexes (alphabet c) core1
  pub parts : PartsJoined c core1 core2 done before at after end
  pub rounds : most ≡ both_rounds c done core1 core2
