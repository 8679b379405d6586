-- What is left of a piling when beads have been taken off the bottoms of its stacks: in each row the beads from the
-- bottom up to the height. And what reading it off yields.
use Rattle.std.specs.Prelude.{ℕ, ◌+◌, ◌<◌, ◌≤◌, ◌≡◌, List, [], length, get_or}
use Rattle.std.proofs.Math.Seq.{slice}
use Rattle.theory_words.specs.All.{All}
use Rattle.theory_words.specs.Stack.{proj}
use Rattle.input_chains.specs.Conflicts.{Conflicts}
use Rattle.spec.specs.Letters.{alphabet}
use Rattle.input_plan.specs.Lettered.{Lettered}
use Rattle.piling_stacks.specs.Piling.{Shape}

-- the bead at the bottom of row i
abbrev pub lowest : List (List ℕ) → List ℕ → ℕ → ℕ
lowest rows at i = get_or (get_or rows i []) (get_or at i 0) 0

module _ (rows : List (List ℕ)) (heights : List ℕ) where
  -- 24 bottoms, none above its height
  pub record Room (at : List ℕ) : Type 0 where
    pub shape : Shape rows heights
    pub many : length at ≡ 24
    pub low : (i : ℕ) → i < 24 → get_or at i 0 ≤ get_or heights i 0
    pub high : (i : ℕ) → i < 24 → get_or heights i 0 ≤ 1024

  -- row i has a bead left, and the lowest is no blank
  abbrev pub Ready : List ℕ → ℕ → Type 0
  Ready at i = (get_or at i 0 < get_or heights i 0) × (lowest rows at i ≡ 0 → ⊥)

  -- the beads left in row i, the lowest first
  abbrev pub beads_left : List ℕ → ℕ → List ℕ
  beads_left at i = slice (get_or at i 0) (get_or heights i 0) (get_or rows i [])

  -- under catalogue c, the beads left are the stacks of the word x
  pub record Left (c at x : List ℕ) : Type 0 where
    pub room : Room at
    pub letters : All Lettered x
    pub beads : (i : ℕ) → i < 24 → beads_left at i ≡ proj (alphabet c) 0 (i + 1) x

-- the table holds the conflicts of catalogue c, the beads left are the stacks of x, and the area has room for x
pub record Readable (c : List ℕ) (conflicts rows : List (List ℕ)) (heights at x area : List ℕ) : Type 0 where
  pub table : Conflicts c conflicts
  pub left : Left rows heights c at x
  pub fits : length x ≤ length area
