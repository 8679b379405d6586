-- The letters of the commands 1 to 24, those that have a row in an array of 24 rows. A filler is none of them.
use Rattle.std.specs.Prelude.{ℕ, ◌≤◌}
use Rattle.spec.specs.Byte.{command_of}

abbrev pub Lettered : ℕ → Type 0
Lettered b = (1 ≤ command_of b) × (command_of b ≤ 24)
