-- What the loop over the commands keeps: the marks of the chains before command a, and for each head the first command
-- that has it, with the commands of its chain.
use Rattle.std.specs.Prelude.{ℕ, ◌+◌, ◌-◌, ◌≤◌, ◌<◌, ◌≡◌, Bool, true, ◌||◌, ◌&&◌, List, length, get_or, ltb}
use Rattle.spec.specs.Catalogue.{records, head, ends, chain, stands}
use Rattle.spec.specs.Answers.{yes_no}
use Rattle.input_chains.specs.Marking.{cell, Shape}

-- command i + 1 or j + 1 is below a and has the other in its chain
abbrev pub met : List ℕ → ℕ → ℕ → ℕ → Bool
met c a i j = (ltb (i + 1) a && stands (j + 1) (chain c (i + 1))) || (ltb (j + 1) a && stands (i + 1) (chain c (j + 1)))

-- the marks after the chains of the commands below a
pub record Chained (c : List ℕ) (a : ℕ) (rows : List (List ℕ)) : Type 0 where
  pub shape : Shape rows
  pub marks : (i j : ℕ) → i < 24 → j < 24 → cell rows i j ≡ yes_no (met c a i j)

-- no command is known for any head
abbrev pub NoneKnown : List ℕ → Type 0
NoneKnown firsts = (h : ℕ) → get_or firsts h 0 ≡ 0

-- command b, below a, has this head; its chain ends, and row b tells who stands in it
pub record Walked (c : List ℕ) (a : ℕ) (own : List (List ℕ)) (h b : ℕ) : Type 0 where
  pub one : 1 ≤ b
  pub below : b < a
  pub heads : head c b ≡ h
  pub ending : ends c (records c) h ≡ true
  pub tells : (j : ℕ) → j < 24 → cell own (b - 1) j ≡ yes_no (stands (j + 1) (chain c b))

-- the first command below a with each head, or 0; the rows of a and above are blank
pub record Known (c : List ℕ) (a : ℕ) (own : List (List ℕ)) (firsts : List ℕ) : Type 0 where
  pub shape : Shape own
  pub room : records c < length firsts
  pub blank : (i j : ℕ) → a ≤ i + 1 → i < 24 → j < 24 → cell own i j ≡ 0
  pub walked : (h : ℕ) → 0 < get_or firsts h 0 → Walked c a own h (get_or firsts h 0)
