-- Stacks with no letter.
use Rattle.std.specs.Prelude.{ℕ, ◌≡◌, length, replicate}
use Rattle.long_stacks.specs.declared.LinkedStacks.{LinkedStacks}

-- room for a word of n letters, and every stack empty
pub record Empty (n : ℕ) (s : LinkedStacks n) : Type 0 where
  pub unders : length s.under ≡ n
  pub links : length s.link ≡ n
  pub tops : s.tops ≡ replicate 24 0
  pub marks : s.marks ≡ replicate 24 0
  pub heights : s.heights ≡ replicate 24 1
