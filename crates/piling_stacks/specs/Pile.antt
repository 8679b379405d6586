-- What piling a plan asks, and the word whose piling it gives.
use Rattle.std.specs.Prelude.{ℕ, ◌≤◌, List, [], reverse, length}
use Rattle.theory_words.specs.Reduce.{reduce}
use Rattle.spec.specs.Catalogue.{commands}
use Rattle.input_chains.specs.Conflicts.{Conflicts}
use Rattle.spec.specs.Plan.{Passing}
use Rattle.spec.specs.Letters.{alphabet, letters}
use Rattle.piling_stacks.specs.Piling.{Piled}

-- a plan that passes under catalogue c, the conflicts of c, and a piling with no bead
pub record Given (c plan : List ℕ) (conflicts rows : List (List ℕ)) (heights : List ℕ) : Type 0 where
  pub few : commands c ≤ 24
  pub passing : Passing (commands c) plan
  pub short : length plan ≤ 1024
  pub table : Conflicts c conflicts
  pub blank : Piled c rows heights []

-- the plan's word reduced, its last letter first
abbrev pub reduced : List ℕ → List ℕ → List ℕ
reduced c plan = reduce (alphabet c) (reverse (letters plan))
