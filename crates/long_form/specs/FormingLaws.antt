-- A lower limit that a word keeps is one that `form` may be asked with; an empty word is its own normal form.
use Rattle.std.specs.Prelude.{ℕ, ◌≤◌, ◌≡◌, List, [], ◌∷◌, length}
use Rattle.std.proofs.Common.{arith}
use Rattle.theory_words.specs.Filter.{filter}
use Rattle.theory_words.specs.Reduce.{reduce}
use Rattle.theory_words.specs.Normal.{nf, lex}
use Rattle.spec.specs.Letters.{letters, normal_form}
use Rattle.array_row.specs.Area.{StartsWith}
use Rattle.array_row.specs.RowLaws.{appended_start}
use Rattle.long_form.specs.Forming.{Formable}

module _ {most : ℕ} {conflicts : List (List ℕ)} {word area : List ℕ} where
  pub formable_within : {less : ℕ} → length word ≤ less → (c : List ℕ) × Formable most c conflicts word area
      → (c : List ℕ) × Formable less c conflicts word area
  formable_within l (c, f) = (c, record { given = f.given; short = l; fits = f.fits })

pub empty_formed : (c word : List ℕ) {area : List ℕ} → length word ≡ 0 → StartsWith (normal_form c word) area area 0
unfolding normal_form letters filter nf reduce lex
empty_formed c [] {area} e = appended_start area 0
empty_formed c (b ∷ word) e = absurd (omega arith)
