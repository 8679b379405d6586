-- The manual's order of plans of one length: the letters stand in the order 1, −1, 2, −2, and so on, and the first
-- difference decides.
use Rattle.std.specs.Prelude.{ℕ, ◌+◌, ◌*◌, ◌/◌, ◌<◌, List, ◌∷◌}
use Rattle.spec.specs.Byte.{command_of}

-- 2, 3, 4, 5, .. for 1, −1, 2, −2, ..
abbrev pub rank : ℕ → ℕ
rank b = 2 * command_of b + b / 128

-- at the first difference v has the letter of smaller rank
pub data Earlier : List ℕ → List ℕ → Type 0 where
  at : {a b : ℕ} {v w : List ℕ} → rank a < rank b → Earlier (a ∷ v) (b ∷ w)
  on : {a : ℕ} {v w : List ℕ} → Earlier v w → Earlier (a ∷ v) (a ∷ w)
