-- A letter before a piling: what is asked where it may cancel and where it is put on, and what cancelling leaves.
use Rattle.std.specs.Prelude.{ℕ, ◌+◌, ◌<◌, ◌≡◌, Bool, true, false, List, length, get_or}
use Rattle.std.proofs.Math.Option.{some}
use Rattle.theory_words.specs.Trace.{First}
use Rattle.theory_words.specs.Reduce.{act}
use Rattle.spec.specs.Conflict.{conflict}
use Rattle.spec.specs.Answers.{yes_no}
use Rattle.spec.specs.Byte.{command_of, undone}
use Rattle.spec.specs.Letters.{alphabet}
use Rattle.spec.specs.Pairs.{Placed, bytes_of, Partner, partner}
use Rattle.piling_stacks.specs.Piling.{Piled}
use Rattle.piling_stacks.specs.Newest.{Newest}

-- a piling of z under catalogue c, a letter of command k + 1, and that command's line of conflicts
pub record Facing (c : List ℕ) (rows : List (List ℕ)) (heights line : List ℕ) (k letter : ℕ) (z : List ℕ) : Type 0 where
  pub piled : Piled c rows heights z
  pub within : k < 24
  pub own : command_of letter ≡ k + 1
  pub wide : length line ≡ 24
  pub tells : (j : ℕ) → j < 24 → get_or line j 0 ≡ yes_no (conflict c (k + 1) (j + 1))

-- the same with room for the letter
pub record Ready (c : List ℕ) (rows : List (List ℕ)) (heights line : List ℕ) (k letter : ℕ) (z : List ℕ) : Type 0 where
  pub facing : Facing c rows heights line k letter z
  pub room : length z < 1024

-- wherever the letters of z stood in a plan, the one that the letter cancels with is the newest of its command
abbrev pub WithNewest : List ℕ → ℕ → List ℕ → Type 0
WithNewest c letter z =
    (t : List Placed) → bytes_of t ≡ z
    → (q : Partner) × (partner c letter t ≡ some q) × Newest (command_of letter) q.place t

-- the letter's undo has come off, which was the newest letter of its command, or it cannot come off and z is as it was
pub record Cancelled (c : List ℕ) (rows : List (List ℕ)) (heights : List ℕ) (letter : ℕ) (z : List ℕ) (r : Bool)
    : Type 0 where
  pub gone : r ≡ true → First (alphabet c) (undone letter) z × Piled c rows heights (act (alphabet c) letter z)
  pub none : r ≡ false → (¬ First (alphabet c) (undone letter) z) × Piled c rows heights z
  pub newest : r ≡ true → WithNewest c letter z
