-- Rows with no bead. Unfolded, they are 24,576 cells: the crates above cite laws of them.
use Rattle.std.specs.Prelude.{ℕ, List, replicate}

unfoldable pub blank_rows : List (List ℕ)
blank_rows = replicate 24 (replicate 1024 0)
