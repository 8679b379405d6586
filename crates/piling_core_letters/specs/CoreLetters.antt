-- The core of a plan with its letters in any order, and the letters taken off in front of it.
use Rattle.std.specs.Prelude.{ℕ, ◌≤◌, ◌*◌, List, length, take}
use Rattle.theory_words.specs.Trace.{◌~◌}
use Rattle.theory_conjugacy.specs.Core as Core
use Rattle.spec.specs.Letters.{letters, alphabet}

pub record Room (plan area lead : List ℕ) : Type 0 where
  pub wide : length plan ≤ length area
  pub deep : length plan ≤ 2 * length lead

-- area starts with the core, n letters, and lead with the m letters taken off in front, both up to swaps
pub record CoreLetters (c plan area lead : List ℕ) (n m : ℕ) : Type 0 where
  pub core : ◌~◌ (alphabet c) (take n area) (Core.core (alphabet c) (letters plan))
  pub within : n ≤ length area
  pub off : ◌~◌ (alphabet c) (take m lead) (Core.lead (alphabet c) (letters plan))
  pub fits : m ≤ length lead
