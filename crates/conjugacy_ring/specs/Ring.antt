-- What finding the ring of one part of a core gives.
use Rattle.std.specs.Prelude.{ℕ, ◌+◌, ◌≡◌, List, ◌++◌, length, take}
use Rattle.spec.specs.Letters.{alphabet}
use Rattle.theory_conjugacy.specs.Part.{part}
use Rattle.theory_conjugacy.specs.Decision.{part_ring}
use Rattle.theory_conjugacy.specs.LeadIn.{settling}
use Rattle.theory_conjugacy.specs.Rounds.{part_rounds}
use Rattle.conjugacy_settled_parts.specs.declared.Ends.{Ends}

-- the ring of the part stands in `ring`, and the letters that settling cycles in `out` behind what was there
pub record Rung (c x : List ℕ) (apex : ℕ) (ring' out out' : List ℕ) (at : ℕ) (e : Ends) : Type 0 where
  pub ring : take e.letters ring' ≡ part_ring (alphabet c) apex x
  pub count : e.letters ≡ length (part_ring (alphabet c) apex x)
  pub cycled : take e.cycled out' ≡ take at out ++ settling (alphabet c) apex (part (alphabet c) apex x)
  pub end : e.cycled ≡ at + length (settling (alphabet c) apex (part (alphabet c) apex x))
  pub rounds : e.rounds ≡ part_rounds (alphabet c) apex x
