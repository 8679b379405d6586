-- The core, on plans of bytes (docs/MANUAL.md, "Core and loop"): of a shortest plan, a command or an undo that can come
-- first and its opposite able to come last are taken off together, until no such pair is left.
use Rattle.std.specs.Prelude.{ℕ, ◌≤◌, ◌≡◌, false, List, [], ◌∷◌, ◌++◌, length}
use Rattle.spec.specs.Conflict.{conflict}
use Rattle.spec.specs.Byte.{command_of, undone}
use Rattle.spec.specs.Step.{Command, Equal}

module _ (c : List ℕ) where
  -- v and w differ by swaps alone
  pub data Swaps : List ℕ → List ℕ → Type 0 where
    none : {v : List ℕ} → Swaps v v
    front : {a b : ℕ} {y : List ℕ} → Command c a → Command c b → conflict c (command_of a) (command_of b) ≡ false
        → Swaps (a ∷ b ∷ y) (b ∷ a ∷ y)
    behind : {b : ℕ} {v w : List ℕ} → Swaps v w → Swaps (b ∷ v) (b ∷ w)
    also : {v x w : List ℕ} → Swaps v x → Swaps x w → Swaps v w

  -- no plan of its effect is shorter
  abbrev pub Least : List ℕ → Type 0
  Least z = (x : List ℕ) → Equal c x z → length z ≤ length x

  -- a can come first in x and its own undo last, as two occurrences, and s stands between them
  abbrev pub Pair : ℕ → List ℕ → List ℕ → Type 0
  Pair a x s = Swaps x (a ∷ s ++ undone a ∷ [])

  -- shortest, and no pair can be taken off
  pub record CyclicallyReduced (z : List ℕ) : Type 0 where
    pub least : Least z
    pub no_pair : (a : ℕ) (s : List ℕ) → ¬ Pair a z s

  -- z is left of x when pairs are taken off until none is left
  pub data TakenOff : List ℕ → List ℕ → Type 0 where
    whole : {z : List ℕ} → CyclicallyReduced z → TakenOff z z
    pair : {a : ℕ} {x s z : List ℕ} → Pair a x s → TakenOff s z → TakenOff x z
