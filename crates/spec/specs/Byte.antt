-- What a byte does or undoes: its command, and the byte that undoes it.
use Rattle.std.specs.Prelude.{ℕ, ◌+◌, ◌-◌, ◌%◌, Bool, true, false, List, map, reverse}
use Rattle.spec.specs.Catalogue.{within}

-- the command that a byte does or undoes
abbrev pub command_of : ℕ → ℕ
command_of b = b % 128

abbrev pub undone_step : Bool → Bool → ℕ → ℕ
undone_step true u b = b + 128
undone_step false true b = b - 128
undone_step false false b = b

-- k and 128 + k exchanged; a filler undone is a filler
unfoldable pub undone : ℕ → ℕ
undone b = undone_step (within 1 127 b) (within 129 255 b) b

-- a plan backwards with each byte undone
abbrev pub undo_of : List ℕ → List ℕ
undo_of u = reverse (map undone u)
