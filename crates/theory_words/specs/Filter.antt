-- The elements of a list that pass a test.
use Rattle.std.specs.Prelude.{Bool, true, false, not, List, [], ◌∷◌}

module _ {A : Type 0} where
  -- a, then w, or w alone
  unfoldable pub keep_if : Bool → A → List A → List A
  keep_if true a w = a ∷ w
  keep_if false a w = w

  abbrev pub drop_if : Bool → A → List A → List A
  drop_if t = keep_if (not t)

  unfoldable pub filter : (A → Bool) → List A → List A
  filter f [] = []
  filter f (a ∷ w) = keep_if (f a) a (filter f w)
