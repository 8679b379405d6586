-- What following the chains of a word asks and gives.
use Rattle.std.specs.Prelude.{ℕ, ◌-◌, List, [], get_or}
use Rattle.theory_words.specs.All.{All}
use Rattle.spec.specs.Byte.{command_of}
use Rattle.input_chains.specs.Conflicts.{Conflicts}
use Rattle.input_plan.specs.Lettered.{Lettered}
use Rattle.array_sets.specs.Sets.{Clear, Table, Meeting, Added}

-- a word of letters, and the conflicts of catalogue c
pub record Followable (c word : List ℕ) (conflicts : List (List ℕ)) : Type 0 where
  pub letters : All Lettered word
  pub table : Conflicts c conflicts

-- a letter, and the set of the commands that a chain has reached
pub record Follow (letter : ℕ) (conflicts : List (List ℕ)) (reached : List ℕ) : Type 0 where
  pub lettered : Lettered letter
  pub table : Table conflicts
  pub meeting : Meeting conflicts reached

-- the letter conflicts with none of them and the set stays, or its command is put in
pub data Followed (letter : ℕ) (conflicts : List (List ℕ)) (reached : List ℕ) : List ℕ → Type 0 where
  apart : Clear (get_or conflicts (command_of letter - 1) []) reached → Followed letter conflicts reached reached
  reach : {reached' : List ℕ} → (Clear (get_or conflicts (command_of letter - 1) []) reached → ⊥)
      → Added (command_of letter - 1) conflicts reached reached' → Followed letter conflicts reached reached'
