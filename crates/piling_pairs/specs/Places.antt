-- The places of the letters left, kept as one chain for each command: from the place of its newest letter, each time to
-- that of the letter that lies next below. What the step asks and tells.
use Rattle.std.specs.Prelude.{ℕ, ◌+◌, ◌<◌, ◌≡◌, List, [], ◌∷◌, length, get_or}
use Rattle.std.specs.Prelude as rust
use Rattle.std.proofs.Math.Option.{Option, none, some}
use Rattle.theory_words.specs.All.{All}
use Rattle.spec.specs.Pairs.{Placed, bytes_of, Partner, left_after}
use Rattle.piling_stacks.specs.Piling.{Piled}
use Rattle.piling_stacks.specs.Push.{Ready}
use Rattle.piling_stacks.specs.Newest.{of_command}

-- from place n on, by below, stand these places
abbrev pub Chain : List ℕ → ℕ → List ℕ → Type 0
Chain below n [] = Unit {0}
Chain below n (p ∷ ps) = (n ≡ p) × (p < 1024) × Chain below (get_or below p 0) ps

-- newest and below keep the places of the letters t
pub record Kept (newest below : List ℕ) (t : List Placed) : Type 0 where
  pub many : length newest ≡ 24
  pub wide : length below ≡ 1024
  pub chain : (i : ℕ) → i < 24 → Chain below (get_or newest i 0) (of_command (i + 1) t)

-- a piling of the letters t with their places, before a letter of a later place
pub record Stepping (c : List ℕ) (rows : List (List ℕ)) (heights newest below line : List ℕ) (k letter place : ℕ)
    (t : List Placed) : Type 0 where
  pub ready : Ready c rows heights line k letter (bytes_of t)
  pub kept : Kept newest below t
  pub later : All (λ x. x.place < place) t
  pub low : place < 1024

-- the place that a step tells, if any, and that of the partner that a letter has, if any
abbrev pub told_step : rust.Option ℕ → Option ℕ
told_step rust.None = none
told_step (rust.Some p) = some p

abbrev pub place_of : Option Partner → Option ℕ
place_of none = none
place_of (some q) = some q.place

-- x was read behind the letters t, among which its partner is o: the step tells the earlier place that it has cancelled
-- with, if it has, and what is left is piled and kept
pub record Stepped (c : List ℕ) (rows : List (List ℕ)) (heights newest below : List ℕ) (x : Placed) (t : List Placed)
    (o : Option Partner) (told : Option ℕ) : Type 0 where
  pub tells : told ≡ place_of o
  pub piled : Piled c rows heights (bytes_of (left_after x t o))
  pub kept : Kept newest below (left_after x t o)
