-- What counting the rounds of a core's parts asks and gives.
use Rattle.std.specs.Prelude.{ℕ, ◌+◌, ◌*◌, ◌≤◌, max, ◌≡◌, List, length, get_or, take}
use Rattle.spec.specs.Catalogue as Catalogue
use Rattle.spec.specs.Letters.{alphabet}
use Rattle.theory_conjugacy.specs.Part.{commands, label}
use Rattle.theory_conjugacy.specs.Rounds.{most_rounds}
use Rattle.conjugacy_commands.specs.Flags.{Flags}
use Rattle.conjugacy_labels.specs.Labels.{LabelsOf}
use Rattle.conjugacy_parts.specs.Group.{Grouped}
use Rattle.conjugacy_settled_parts.specs.PartOf.{Cyclic, PartOf}

-- a core with its labels
pub record Labelled (c : List ℕ) (conflicts : List (List ℕ)) (x labels : List ℕ) : Type 0 where
  pub cyclic : Cyclic c conflicts x
  pub labelled : LabelsOf (label (alphabet c) x) labels

-- p is the part of command k + 1, its apex, in a core with these labels
pub record ApexOf (c : List ℕ) (conflicts : List (List ℕ)) (x labels : List ℕ) (k : ℕ) (p row : List ℕ) (at : ℕ)
    : Type 0 where
  pub part : PartOf c conflicts x (get_or labels k 0) p row at
  pub labelled : LabelsOf (label (alphabet c) x) labels
  pub own : get_or labels k 0 ≡ k + 1

-- a core with its flags and labels, and room, from place `at` on, for the letters that as many rounds as commands cycle
pub record CoreOf (c : List ℕ) (conflicts : List (List ℕ)) (x fs labels row : List ℕ) (at : ℕ) : Type 0 where
  pub core : Labelled c conflicts x labels
  pub flags : Flags (commands (alphabet c) x) fs
  pub room : at + Catalogue.commands c * length x ≤ length row

-- such a core, grouped
pub record GroupOf (c : List ℕ) (conflicts : List (List ℕ)) (x word starts fs labels row : List ℕ) (at : ℕ)
    : Type 0 where
  pub core : CoreOf c conflicts x fs labels row at
  pub grouped : Grouped c x word starts

-- the largest number that the parts with these apexes need, or `most` if that is larger; the row is kept up to `at`
pub record Counts (c x ms : List ℕ) (most : ℕ) (row row' : List ℕ) (at n : ℕ) : Type 0 where
  pub count : n ≡ max most (most_rounds (alphabet c) ms x)
  pub kept : take at row' ≡ take at row
