-- Text put behind what stands in a row of bytes.
use Rattle.std.specs.Prelude.{ℕ, ◌≤◌, List, ◌++◌, length}
use Rattle.spec.specs.Table.{refused, line_of}
use Rattle.spec.specs.declared.Refusal.{Refusal}
use Rattle.array_row.specs.Row.{Appended}
use Rattle.spec.specs.Listing.{Decimal, Shows}

-- a text that P says, of at most so many bytes, now stands behind the first `at` bytes, up to `end`
pub record Put (P : List ℕ → Type 0) (most : ℕ) (before : List ℕ) (at : ℕ) (after : List ℕ) (end : ℕ) : Type 0 where
  pub text : List ℕ
  pub says : P text
  pub short : length text ≤ most
  pub there : Appended before at text after end

-- the word, with a number behind it in at most 20 decimal digits, now stands behind the first `at` bytes, up to `end`
pub record PutNumber (word : List ℕ) (n : ℕ) (before : List ℕ) (at : ℕ) (after : List ℕ) (end : ℕ) : Type 0 where
  pub digits : List ℕ
  pub says : Decimal n digits
  pub short : length digits ≤ 20
  pub there : Appended before at (word ++ digits) after end

abbrev pub Refuses : Refusal → List ℕ → Type 0
Refuses r = Shows (refused (line_of r))
