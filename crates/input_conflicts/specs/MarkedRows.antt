-- Rows with no mark, with the marks of all chains, and with each command marked against itself.
use Rattle.std.specs.Prelude.{ℕ, zero, suc, ◌+◌, ◌<◌, ◌≡◌, ◌||◌, List}
use Rattle.spec.specs.Catalogue.{chain, stands}
use Rattle.spec.specs.Answers.{yes_no}
use Rattle.input_chains.specs.Marking.{cell, Shape, put}

-- no mark is set
pub record Blank (rows : List (List ℕ)) : Type 0 where
  pub shape : Shape rows
  pub clear : (i j : ℕ) → i < 24 → j < 24 → cell rows i j ≡ 0

-- a mark in row i at place i, for i below k
unfoldable pub diagonal : List (List ℕ) → ℕ → List (List ℕ)
diagonal rows zero = rows
diagonal rows (suc k) = put (diagonal rows k) k k

-- a mark wherever one command stands in the chain of the other
pub record Met (c : List ℕ) (rows : List (List ℕ)) : Type 0 where
  pub shape : Shape rows
  pub marks : (i j : ℕ) → i < 24 → j < 24
      → cell rows i j ≡ yes_no (stands (j + 1) (chain c (i + 1)) || stands (i + 1) (chain c (j + 1)))
