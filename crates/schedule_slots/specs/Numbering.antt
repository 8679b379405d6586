-- What numbering the letters of a word asks and gives.
use Rattle.std.specs.Prelude.{ℕ, ◌≤◌, ◌≡◌, List, length}
use Rattle.theory_words.specs.All.{All}
use Rattle.spec.specs.Slots.{slots, slots_in_use}
use Rattle.input_chains.specs.Conflicts.{Conflicts}
use Rattle.input_plan.specs.Lettered.{Lettered}
use Rattle.array_row.specs.Area.{StartsWith}

-- a word of letters, the conflicts of catalogue c, and room for a slot beside each letter
pub record Numberable (c word : List ℕ) (conflicts : List (List ℕ)) (numbers : List ℕ) : Type 0 where
  pub letters : All Lettered word
  pub table : Conflicts c conflicts
  pub short : length word ≤ 1024
  pub room : length word ≤ length numbers

-- the slots of the word stand at the start of the numbers, past which these are as they were, and n of them differ
pub record SlotsOf (c word before after : List ℕ) (n : ℕ) : Type 0 where
  pub written : StartsWith (slots c word) before after (length word)
  pub in_use : n ≡ slots_in_use c word
