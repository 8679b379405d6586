-- What a product of two words asks, and what is written.
use Rattle.std.specs.Prelude.{ℕ, ◌+◌, ◌≤◌, ◌≡◌, List, ◌++◌, length, take}
use Rattle.spec.specs.Catalogue.{commands}
use Rattle.input_chains.specs.Conflicts.{Conflicts}
use Rattle.array_row.specs.Area.{StartsWith}
use Rattle.spec.specs.Plan.{Passing}
use Rattle.spec.specs.Letters.{normal_form}

-- the row begins with both words, up to `end`
pub record Concatenated (first second row : List ℕ) (end : ℕ) : Type 0 where
  pub ends : end ≡ length first + length second
  pub begins : take end row ≡ first ++ second

-- two words whose bytes pass, together of at most 50,176, with the conflict table of their catalogue and an area with
-- room for both
pub record Factors (c : List ℕ) (conflicts : List (List ℕ)) (first second area : List ℕ) : Type 0 where
  pub table : Conflicts c conflicts
  pub few : commands c ≤ 24
  pub left : Passing (commands c) first
  pub right : Passing (commands c) second
  pub short : length first + length second ≤ 50176
  pub fits : length first + length second ≤ length area

-- for every such catalogue the area now begins with the normal form of the product, r letters
abbrev pub Multiplied : List (List ℕ) → List ℕ → List ℕ → List ℕ → List ℕ → ℕ → Type 0
Multiplied conflicts first second before after r =
    (c : List ℕ) → Factors c conflicts first second before → StartsWith (normal_form c (first ++ second)) before after r
