-- A plan's core and the letters taken off in front of it.
use Rattle.std.specs.Prelude.{ℕ, List}
use Rattle.theory_words.specs.Trace.{◌~◌}
use Rattle.theory_conjugacy.specs.Core as Core
use Rattle.spec.specs.Letters.{letters, alphabet}

-- x is the core of the plan and g the letters taken off in front of it, both up to swaps
pub record CoreAndLead (c plan x g : List ℕ) : Type 0 where
  pub core : ◌~◌ (alphabet c) x (Core.core (alphabet c) (letters plan))
  pub off : ◌~◌ (alphabet c) g (Core.lead (alphabet c) (letters plan))
