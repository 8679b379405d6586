-- What it means that an area now starts with some bytes.
use Rattle.std.specs.Prelude.{ℕ, List, length}
use Rattle.theory_words.specs.Normal.{lex}
use Rattle.spec.specs.Letters.{alphabet}
use Rattle.array_row.specs.Row.{Appended}

-- it starts with x, r bytes, and past them it is as it was
abbrev pub StartsWith : List ℕ → List ℕ → List ℕ → ℕ → Type 0
StartsWith x before = Appended before 0 x

-- it starts with the letters of x, in order
abbrev pub ReadOff : List ℕ → List ℕ → List ℕ → List ℕ → ℕ → Type 0
ReadOff c x = StartsWith (lex (alphabet c) (length x) x)
