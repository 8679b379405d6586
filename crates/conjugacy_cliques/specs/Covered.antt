-- Flags that a line of zeros and ones covers.
use Rattle.std.specs.Prelude.{ℕ, ◌<◌, ◌≡◌, List, get_or}
use Rattle.std.specs.Int.Bits.{bit_and, bit_xor}

-- of zeros and ones: f where n is 0, and 0 where n is 1
abbrev pub missing : ℕ → ℕ → ℕ
missing f n = bit_and f (bit_xor n 1)

-- no flag is set where the line has a zero
abbrev pub Covered : List ℕ → List ℕ → Type 0
Covered line flags = (j : ℕ) → j < 24 → missing (get_or flags j 0) (get_or line j 0) ≡ 0
