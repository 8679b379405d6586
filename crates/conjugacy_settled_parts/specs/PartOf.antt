-- What settling one part of a core asks and gives.
use Rattle.std.specs.Prelude.{ℕ, ◌+◌, ◌*◌, ◌≤◌, ◌≡◌, List, length, take}
use Rattle.spec.specs.Catalogue.{commands}
use Rattle.input_chains.specs.Conflicts.{Conflicts}
use Rattle.spec.specs.Letters.{alphabet}
use Rattle.spec_laws.specs.LettersLaws.{Commands}
use Rattle.theory_conjugacy.specs.Turn.{Round}
use Rattle.theory_conjugacy.specs.AscendingLaws.{◌∈◌}
use Rattle.theory_conjugacy.specs.Part.{apexes, part}
use Rattle.conjugacy_settling.specs.Settling.{Ended}
use Rattle.conjugacy_settled_parts.specs.declared.Ends.{Ends}

-- a cyclically reduced word of commands of catalogue c, whose conflicts the table holds
pub record Cyclic (c : List ℕ) (conflicts : List (List ℕ)) (x : List ℕ) : Type 0 where
  pub table : Conflicts c conflicts
  pub few : commands c ≤ 24
  pub letters : Commands (commands c) x
  pub round : Round (alphabet c) x
  pub short : length x ≤ 1024

-- p is the core's part with this apex, and there is room, from place `at` on, for the letters that as many rounds as
-- commands cycle
pub record PartOf (c : List ℕ) (conflicts : List (List ℕ)) (x : List ℕ) (apex : ℕ) (p out : List ℕ) (at : ℕ)
    : Type 0 where
  pub core : Cyclic c conflicts x
  pub apical : apex ∈ apexes (alphabet c) x
  pub letters : p ≡ part (alphabet c) apex x
  pub room : at + commands c * length (part (alphabet c) apex x) ≤ length out

-- the part, settled, stands at the start of `word`
pub record SettledOf (c x : List ℕ) (apex : ℕ) (word out out' : List ℕ) (at : ℕ) (e : Ends) : Type 0 where
  pub many : e.letters ≡ length (part (alphabet c) apex x)
  pub ended : Ended c apex (part (alphabet c) apex x) (take e.letters word) out out' at
      (record { end = e.cycled; rounds = e.rounds })
