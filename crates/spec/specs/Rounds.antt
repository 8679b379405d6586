-- How many rounds settling takes (docs/MANUAL.md, "Parts and rings"), on plans of bytes: the parts of a core, what a
-- round does to one, and how many rounds it needs; then the number that the loops call tells, which computes.
use Rattle.std.specs.Prelude.{ℕ, zero, suc, ◌≤◌, max, ◌≡◌, false, ◌⊎◌}
use mathlib.Core.List.{List, [], ◌∷◌, ◌++◌, Memᴰ}
use Rattle.theory_words.specs.All.{All}
use Rattle.theory_conjugacy.specs.Rounds.{core_rounds}
use Rattle.spec.specs.Conflict.{conflict}
use Rattle.spec.specs.Byte.{command_of}
use Rattle.spec.specs.Core.{Swaps}
use Rattle.spec.specs.Letters.{alphabet}
use Rattle.spec.specs.Calls.{core_form}

module _ (c : List ℕ) where
  -- no command of x conflicts with one of y
  abbrev pub Independent : List ℕ → List ℕ → Type 0
  Independent x y = All (λ a. All (λ b. conflict c (command_of a) (command_of b) ≡ false) y) x

  -- y is the part of x whose largest command is m: x is y and a rest that is independent of y, and y is not two words
  -- that are independent of each other
  pub record IsPart (x : List ℕ) (m : ℕ) (y : List ℕ) : Type 0 where
    pub rest : List ℕ
    pub parted : Swaps c x (y ++ rest)
    pub apart : Independent y rest
    pub whole : (p q : List ℕ) → Swaps c y (p ++ q) → Independent p q → (p ≡ []) ⊎ (q ≡ [])
    pub apex : (a : ℕ) × Memᴰ a y × (command_of a ≡ m)
    pub largest : All (λ a. command_of a ≤ m) y

  -- y is p0 then p1: p1 is every letter that is an apex letter or must stay after one. So p0 has no apex letter, and
  -- what can come first in p1 is one.
  pub record Halves (m : ℕ) (y p0 p1 : List ℕ) : Type 0 where
    pub parted : Swaps c y (p0 ++ p1)
    pub below : All (λ a. ¬ (command_of a ≡ m)) p0
    pub above : (a : ℕ) (s : List ℕ) → Swaps c p1 (a ∷ s) → command_of a ≡ m

  -- y needs n rounds: while p0 is not empty, a round replaces it by p1 then p0
  pub data Settles (m : ℕ) : ℕ → List ℕ → Type 0 where
    settled : {y p1 : List ℕ} → Halves m y [] p1 → Settles m zero y
    round : {n b : ℕ} {y p0 p1 : List ℕ} → Halves m y (b ∷ p0) p1 → Settles m n (p1 ++ b ∷ p0) → Settles m (suc n) y

  -- some part of x needs n rounds
  pub record Needs (x : List ℕ) (n : ℕ) : Type 0 where
    pub m : ℕ
    pub y : List ℕ
    pub part : IsPart x m y
    pub settles : Settles m n y

-- the largest number that a part of either core needs; 0 where there is none
unfoldable pub loops_rounds : List ℕ → List ℕ → List ℕ → ℕ
loops_rounds c v w = max (core_rounds (alphabet c) (core_form c v)) (core_rounds (alphabet c) (core_form c w))
