-- Pairs at the ends of what is left of a piling: a letter at the bottom of a row and its undo at the top. And what
-- taking them off yields.
use Rattle.std.specs.Prelude.{ℕ, ◌+◌, ◌-◌, ◌*◌, ◌<◌, ◌≤◌, ◌≡◌, List, [], length, get_or, take, drop}
use Rattle.input_chains.specs.Conflicts.{Conflicts}
use Rattle.spec.specs.Byte.{undone}
use Rattle.spec.specs.Letters.{alphabet}
use Rattle.theory_conjugacy.specs.Core.{Cores}
use Rattle.array_counts.specs.Heights.{Both, Changed}
use Rattle.piling_read.specs.Reading.{Left}

-- of the beads from `at` up to `height` the lowest is a letter, and the highest, another bead, is its undo
pub record Ends (row : List ℕ) (height at : ℕ) : Type 0 where
  pub two : at + 1 < height
  pub letter : get_or row at 0 ≡ 0 → ⊥
  pub undo : get_or row (height - 1) 0 ≡ undone (get_or row at 0)

module _ (rows : List (List ℕ)) (heights at : List ℕ) where
  abbrev pub Pair : ℕ → Type 0
  Pair i = Ends (get_or rows i []) (get_or heights i 0) (get_or at i 0)

-- every bottom can move up, and every height down, by the line's number
abbrev pub Movable : List ℕ → List ℕ → List ℕ → Type 0
Movable line heights at = Both (λ h n. n ≤ h) heights line × Both (λ h n. h + n < 65536) at line

abbrev pub Moved : List ℕ → List ℕ → List ℕ → List ℕ → List ℕ → Type 0
Moved line heights at down up = Changed ◌-◌ line heights down × Changed ◌+◌ line at up

-- the table holds the conflicts of catalogue c, the beads left are the stacks of x, and there is room for the letters
-- taken off in front
pub record Peelable (c : List ℕ) (conflicts rows : List (List ℕ)) (heights at x lead : List ℕ) : Type 0 where
  pub table : Conflicts c conflicts
  pub left : Left rows heights c at x
  pub fits : length x ≤ 2 * length lead

-- the beads left now are the stacks of z, what is left of x when its pairs are taken off, the first r letters of lead
-- in front; past them lead is as it was
pub record Peeled (c : List ℕ) (rows : List (List ℕ)) (x before heights at lead : List ℕ) (r : ℕ) (z : List ℕ)
    : Type 0 where
  pub left : Left rows heights c at z
  pub cores : Cores (alphabet c) x (take r lead) z
  pub count : 2 * r + length z ≡ length x
  pub kept : drop r lead ≡ drop r before
