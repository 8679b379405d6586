-- A word appended to what stands in a row, and a part of the row undone where it stands.
use Rattle.std.specs.Prelude.{ℕ, ◌+◌, ◌≡◌, List, ◌++◌, length, take, drop}
use Rattle.spec.specs.Byte.{undo_of}

-- behind the first `at` bytes now stands the word, up to `end`, and past it the row is as it was
pub record Appended (before : List ℕ) (at : ℕ) (word after : List ℕ) (end : ℕ) : Type 0 where
  pub ends : end ≡ at + length word
  pub bytes : after ≡ take at before ++ word ++ drop end before

-- the bytes from `from` up to `to` are backwards and undone, and before and past them the row is as it was
abbrev pub Undone : List ℕ → ℕ → ℕ → List ℕ → Type 0
Undone before from to after = Appended before from (undo_of (drop from (take to before))) after to
