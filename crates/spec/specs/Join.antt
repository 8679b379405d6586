-- A lead-in u joins v to w: undo of u, v, u has the effect of w. (The field's term: u conjugates v to w.)
use Rattle.std.specs.Prelude.{ℕ, List, ◌++◌}
use Rattle.spec.specs.Byte.{undo_of}
use Rattle.spec.specs.Step.{Equal}

abbrev pub Joins : List ℕ → List ℕ → List ℕ → List ℕ → Type 0
Joins c v w u = Equal c (undo_of u ++ (v ++ u)) w
