-- Demand 2 on plans of bytes: one step swaps neighbours that do not conflict, puts in or takes out a command beside its
-- undo, or puts in or takes out a filler. Two plans are equal if a chain of steps joins them, of any length, through
-- plans that hold only bytes that line 8 lets pass.
use Rattle.std.specs.Prelude.{ℕ, ◌≡◌, true, false, List, ◌∷◌}
use Rattle.spec.specs.Catalogue.{commands}
use Rattle.spec.specs.Conflict.{conflict}
use Rattle.spec.specs.Plan.{is_command, Passing}
use Rattle.spec.specs.Byte.{command_of, undone}

module _ (c : List ℕ) where
  -- a byte that does or undoes a command of the catalogue
  abbrev pub Command : ℕ → Type 0
  Command b = is_command (commands c) b ≡ true

  -- a step at the front of a plan, or further on
  pub data Step : List ℕ → List ℕ → Type 0 where
    swap : {a b : ℕ} {y : List ℕ} → Command a → Command b → conflict c (command_of a) (command_of b) ≡ false
        → Step (a ∷ b ∷ y) (b ∷ a ∷ y)
    pair_in : {a : ℕ} {y : List ℕ} → Command a → Step y (a ∷ undone a ∷ y)
    pair_out : {a : ℕ} {y : List ℕ} → Command a → Step (a ∷ undone a ∷ y) y
    filler_in : {y : List ℕ} → Step y (0 ∷ y)
    filler_out : {y : List ℕ} → Step (0 ∷ y) y
    later : {b : ℕ} {x y : List ℕ} → Step x y → Step (b ∷ x) (b ∷ y)

  pub data Equal : List ℕ → List ℕ → Type 0 where
    stay : {v : List ℕ} → Passing (commands c) v → Equal v v
    step : {v x w : List ℕ} → Passing (commands c) v → Step v x → Equal x w → Equal v w
