-- Long words, and the state on the way to their reduction.
use Rattle.std.specs.Prelude.{ℕ, ◌≤◌, List, length, drop}
use Rattle.theory_words.specs.Reduce.{reduce}
use Rattle.spec.specs.Catalogue.{commands}
use Rattle.input_chains.specs.Conflicts.{Conflicts}
use Rattle.spec.specs.Plan.{Passing}
use Rattle.spec.specs.Letters.{letters, alphabet}
use Rattle.long_stacks.specs.Linked.{Stacks}
use Rattle.long_stacks.specs.declared.LinkedStacks.{LinkedStacks}

-- a word of bytes that pass, of at most 50,176, with the conflict table of its catalogue
pub record Given (c : List ℕ) (conflicts : List (List ℕ)) (word : List ℕ) : Type 0 where
  pub table : Conflicts c conflicts
  pub few : commands c ≤ 24
  pub passing : Passing (commands c) word
  pub short : length word ≤ 50176

-- the arrays hold the stacks of the word from place i on, reduced
pub record Reducing {n : ℕ} (c : List ℕ) (conflicts : List (List ℕ)) (word : List ℕ) (s : LinkedStacks n) (i : ℕ)
    : Type 0 where
  pub given : Given c conflicts word
  pub stacks : Stacks c word s i (reduce (alphabet c) (letters (drop i word)))
