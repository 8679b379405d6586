-- What a caller of `form` has to bring, and what it gets.
use Rattle.std.specs.Prelude.{ℕ, ◌≤◌, List, length}
use Rattle.array_row.specs.Area.{StartsWith}
use Rattle.spec.specs.Letters.{letters, normal_form}
use Rattle.long_reduction.specs.Reducing.{Given}

-- a word of at most so many bytes, and an area with room for its letters
pub record Formable (most : ℕ) (c : List ℕ) (conflicts : List (List ℕ)) (word area : List ℕ) : Type 0 where
  pub given : Given c conflicts word
  pub short : length word ≤ most
  pub fits : length (letters word) ≤ length area

-- for every catalogue of the conflicts the area now begins with the normal form of the word, r letters
abbrev pub Formed : List (List ℕ) → List ℕ → List ℕ → List ℕ → ℕ → Type 0
Formed conflicts word before after r =
    (c : List ℕ) → Given c conflicts word → StartsWith (normal_form c word) before after r
