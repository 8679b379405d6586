-- Undoing a plan on a piling, byte by byte from its last to its first.
use Rattle.std.specs.Prelude.{ℕ, ◌+◌, ◌≤◌, ◌≡◌, Bool, true, false, List, length, eqb, ltb}
use Rattle.theory_words.specs.Group.{Reduced}
use Rattle.theory_words.specs.Reduce.{act}
use Rattle.spec.specs.Catalogue.{commands}
use Rattle.input_chains.specs.Conflicts.{Conflicts}
use Rattle.spec.specs.Plan.{passes, Passing}
use Rattle.spec.specs.Byte.{undone}
use Rattle.spec.specs.Letters.{alphabet}
use Rattle.piling_stacks.specs.Piling.{Piled, Counted}
use Rattle.piling_stacks.specs.Push.{WithNewest}

unfoldable pub undone_by_step : Bool → List ℕ → ℕ → List ℕ → List ℕ
undone_by_step true c b z = z
undone_by_step false c b z = act (alphabet c) (undone b) z

-- the word z, its last letter first, after the undo of byte b; a filler has none
unfoldable pub undone_by : List ℕ → ℕ → List ℕ → List ℕ
undone_by c b z = undone_by_step (eqb b 0) c b z

-- a byte that passes, the conflicts, and a piling of z in whose rows `spare` letters more have room
pub record Undoable (c : List ℕ) (conflicts rows : List (List ℕ)) (heights : List ℕ) (byte spare : ℕ) (z : List ℕ)
    : Type 0 where
  pub few : commands c ≤ 24
  pub passing : passes (commands c) byte ≡ true
  pub table : Conflicts c conflicts
  pub piled : Piled c rows heights z
  pub room : length z + spare ≤ 1024

-- what the byte spends, and the piling after it if that was spare; where it spends nothing its undo has cancelled with
-- the newest letter of its command
pub record Undone (c : List ℕ) (rows : List (List ℕ)) (heights : List ℕ) (byte spare : ℕ) (z : List ℕ) (r : ℕ)
    : Type 0 where
  pub spent : length (undone_by c byte z) + 1 ≡ length z + r
  pub piled : r ≤ spare → Piled c rows heights (undone_by c byte z)
  pub newest : r ≡ 0 → WithNewest c (undone byte) z

-- a plan that passes, the conflicts, and the piling of a reduced word of n letters
pub record Opposed (c w : List ℕ) (conflicts rows : List (List ℕ)) (heights : List ℕ) (n : ℕ) (z : List ℕ)
    : Type 0 where
  pub few : commands c ≤ 24
  pub passing : Passing (commands c) w
  pub short : length w ≤ 1024
  pub table : Conflicts c conflicts
  pub counted : Counted c rows heights z n
  pub reduced : Reduced (alphabet c) z

-- the shorter of two plans, the first if they have one length; and the other

abbrev pub chosen : Bool → List ℕ → List ℕ → List ℕ
chosen true v w = v
chosen false v w = w

unfoldable pub shorter : List ℕ → List ℕ → List ℕ
shorter v w = chosen (ltb (length w) (length v)) w v

unfoldable pub longer : List ℕ → List ℕ → List ℕ
longer v w = chosen (ltb (length w) (length v)) v w
