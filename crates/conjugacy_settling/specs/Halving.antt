-- What the split of a word in one scan asks and gives.
use Rattle.std.specs.Prelude.{ℕ, ◌+◌, ◌-◌, ◌<◌, ◌≤◌, ◌≡◌, ◌⊎◌, List, [], length, get_or, set}
use Rattle.theory_words.specs.All.{All}
use Rattle.input_chains.specs.Conflicts.{Conflicts}
use Rattle.spec.specs.Byte.{command_of}
use Rattle.input_plan.specs.Lettered.{Lettered}
use Rattle.spec.specs.Letters.{alphabet}
use Rattle.theory_conjugacy.specs.Settle.{raise, Split}
use Rattle.array_sets.specs.Sets.{Clear, Table, Marks, Meeting, Added}
use Rattle.array_row.specs.Row.{Appended}
use Rattle.array_row.specs.Area.{StartsWith}
use Rattle.conjugacy_settling.specs.declared.Halves.{Halves}

-- a letter, the set of raised commands, and room for one more letter in both halves
pub record Place (letter : ℕ) (conflicts : List (List ℕ)) (raised low high : List ℕ) (ends : Halves) : Type 0 where
  pub lettered : Lettered letter
  pub table : Table conflicts
  pub meeting : Meeting conflicts raised
  pub lower : ends.low < length low
  pub upper : ends.high < length high

-- the letter's line of conflicts
abbrev pub line_of : ℕ → List (List ℕ) → List ℕ
line_of letter conflicts = get_or conflicts (command_of letter - 1) []

-- the letter is put in the lower half, or in the upper one and its command in the set
pub data Placed (letter apex : ℕ) (conflicts : List (List ℕ)) (raised low high : List ℕ) (ends : Halves)
    : List ℕ → List ℕ → List ℕ → Halves → Type 0 where
  below : (command_of letter ≡ apex → ⊥) → Clear (line_of letter conflicts) raised
      → Placed letter apex conflicts raised low high ends raised (set low ends.low letter) high
      (record { low = ends.low + 1; high = ends.high })
  above : {raised' : List ℕ} → (command_of letter ≡ apex) ⊎ (Clear (line_of letter conflicts) raised → ⊥)
      → Added (command_of letter - 1) conflicts raised raised'
      → Placed letter apex conflicts raised low high ends raised' low (set high ends.high letter)
      (record { low = ends.low; high = ends.high + 1 })

-- a word of letters, the conflicts of catalogue c, the set of the raised commands R, and room for the word behind the
-- first `from` bytes of `high`
pub record Splittable (c R word : List ℕ) (conflicts : List (List ℕ)) (raised high : List ℕ) (from : ℕ) : Type 0 where
  pub letters : All Lettered word
  pub table : Conflicts c conflicts
  pub meeting : Meeting conflicts raised
  pub marks : Marks raised R
  pub room : from + length word ≤ length high

-- the word is split as p and q: it starts with p, behind the first `from` bytes of `high` stands q, and the commands of
-- q are in the set too
pub record Halved (c : List ℕ) (apex : ℕ) (R word : List ℕ) (conflicts : List (List ℕ)) (high : List ℕ) (from : ℕ)
    (word' raised' high' : List ℕ) (r : Halves) : Type 0 where
  pub p : List ℕ
  pub q : List ℕ
  pub halves : Split (alphabet c) apex R word p q
  pub lower : StartsWith p word word' r.low
  pub upper : Appended high from q high' r.high
  pub meeting : Meeting conflicts raised'
  pub marks : Marks raised' (raise (alphabet c) R q)
