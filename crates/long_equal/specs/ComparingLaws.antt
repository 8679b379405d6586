-- What the areas begin with, compared.
use Rattle.std.specs.Prelude.{ℕ, ◌≡◌, Bool, true, List, ◌++◌, ◌↔◌, take}
use Rattle.array_row.specs.Area.{StartsWith}
use Rattle.array_row.specs.AreaLaws.{starts_take}
use Rattle.spec.specs.Letters.{normal_form}
use Rattle.long_equal.specs.Comparing.{Compared}

-- the starts of the areas are the same exactly if the normal forms are
pub compared : {c v w u before0 after0 before1 after1 : List ℕ} {yes : Bool} {vu uw : ℕ}
    → StartsWith (normal_form c (v ++ u)) before0 after0 vu → StartsWith (normal_form c (u ++ w)) before1 after1 uw
    → (yes ≡ true) ↔ (take vu after0 ≡ take uw after1)
    → Compared c v w u before0 after0 before1 after1 (record { yes = yes; vu = vu; uw = uw })
compared x y s = record {
  same = rw (starts_take x, starts_take y) at s;
  written0 = x;
  written1 = y;
}
