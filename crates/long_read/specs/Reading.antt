-- What is asked where the stacks of a long word are read off.
use Rattle.std.specs.Prelude.{ℕ, ◌≤◌, List, length}
use Rattle.input_chains.specs.Conflicts.{Conflicts}
use Rattle.long_stacks.specs.Linked.{Stacks}
use Rattle.long_stacks.specs.declared.LinkedStacks.{LinkedStacks}

-- the arrays hold the stacks of x, and the area has room for x
pub record Readable {n : ℕ} (c : List ℕ) (conflicts : List (List ℕ)) (word : List ℕ) (s : LinkedStacks n)
    (x area : List ℕ) : Type 0 where
  pub table : Conflicts c conflicts
  pub stacks : Stacks c word s 0 x
  pub fits : length x ≤ length area
