-- 24 heights changed by a line of 24 numbers, index by index.
use Rattle.std.specs.Prelude.{ℕ, ◌-◌, ◌*◌, ◌<◌, max, ◌≡◌, List, length, get_or}
use Rattle.std.specs.Int.Bits.{bit_and}

-- 24 heights and a line of 24 numbers, with P at each index
pub record Both (P : ℕ → ℕ → Type 0) (heights line : List ℕ) : Type 0 where
  pub many : length heights ≡ 24
  pub wide : length line ≡ 24
  pub holds : (i : ℕ) → i < 24 → P (get_or heights i 0) (get_or line i 0)

-- at each index the last height is f of the first and of the line's number
pub record Changed (f : ℕ → ℕ → ℕ) (line first last : List ℕ) : Type 0 where
  pub kept : length last ≡ length first
  pub each : (i : ℕ) → i < 24 → get_or last i 0 ≡ f (get_or first i 0) (get_or line i 0)

-- at each index the last height is one that R allows for the first and the line's number
pub record ChangedBy (R : ℕ → ℕ → ℕ → Type 0) (line first last : List ℕ) : Type 0 where
  pub kept : length last ≡ length first
  pub each : (i : ℕ) → i < 24 → R (get_or first i 0) (get_or line i 0) (get_or last i 0)

-- f where n is 0, and 0 where n is 1
unfoldable pub without : ℕ → ℕ → ℕ
without f n = bit_and f (1 - n)

-- h where n is 0, and at least `least` where n is 1
abbrev pub at_least : ℕ → ℕ → ℕ → ℕ
at_least least h n = max h (n * least)
