-- The products v·u and u·w compared: what is asked of plans and areas, and what is told and written at the end.
use Rattle.std.specs.Prelude.{ℕ, ◌≡◌, true, List, ◌++◌, ◌↔◌}
use Rattle.array_row.specs.Area.{StartsWith}
use Rattle.spec.specs.Letters.{normal_form}
use Rattle.long_product.specs.Product.{Factors}
use Rattle.spec.specs.declared.LeadIn.{LeadIn}

-- both products can be made, in areas with room for them
pub record Comparable (c : List ℕ) (conflicts : List (List ℕ)) (v w u area0 area1 : List ℕ) : Type 0 where
  pub first : Factors c conflicts v u area0
  pub second : Factors c conflicts u w area1

-- the areas now begin with the normal forms of v·u and u·w, and `yes` tells whether these are equal
pub record Compared (c v w u before0 after0 before1 after1 : List ℕ) (r : LeadIn) : Type 0 where
  pub same : (r.yes ≡ true) ↔ (normal_form c (v ++ u) ≡ normal_form c (u ++ w))
  pub written0 : StartsWith (normal_form c (v ++ u)) before0 after0 r.vu
  pub written1 : StartsWith (normal_form c (u ++ w)) before1 after1 r.uw
