-- A word that conjugates one word to another where they are conjugate (the manual: a lead-in), computed: the letters
-- taken off the first to reach its core; for each part the letters that settling cycles, the letters before the place
-- at which the rings agree, and the letters that settling cycles in the other word undone; and the letters taken off
-- the second undone.
use Rattle.std.specs.Prelude.{ℕ, zero, List, [], ◌∷◌, ◌++◌, length, take}
use Rattle.std.proofs.Math.Option.{Option, none, some}
use Rattle.theory_words.specs.Alphabet.{Alphabet, Word}
use Rattle.theory_words.specs.Group.{undo}
use Rattle.theory_conjugacy.specs.Core.{core, lead}
use Rattle.theory_conjugacy.specs.Part.{commands, apexes, part}
use Rattle.theory_conjugacy.specs.Settle.{cycled}
use Rattle.theory_conjugacy.specs.Rotation.{rotation}
use Rattle.theory_conjugacy.specs.Decision.{settled_ring}

unfoldable pub place : Option ℕ → ℕ
place none = zero
place (some i) = i

module _ (Γ : Alphabet) where
  -- the letters that settling a part with apex m cycles
  unfoldable pub settling : ℕ → Word Γ → Word Γ
  settling m p = cycled Γ m (length (commands Γ p)) p

  -- from one part with apex m to another
  unfoldable pub part_lead : ℕ → Word Γ → Word Γ → Word Γ
  part_lead m p q =
      let r = settled_ring Γ m p in
      settling m p ++ (take (place (rotation Γ r (settled_ring Γ m q))) r ++ undo Γ (settling m q) [])

  -- the parts with these apexes
  unfoldable pub parts_lead : List ℕ → Word Γ → Word Γ → Word Γ
  parts_lead [] x y = []
  parts_lead (m ∷ ms) x y = part_lead m (part Γ m x) (part Γ m y) ++ parts_lead ms x y

  unfoldable pub lead_in : Word Γ → Word Γ → Word Γ
  lead_in v w =
      let x = core Γ v in
      lead Γ v ++ (parts_lead (apexes Γ x) x (core Γ w) ++ undo Γ (lead Γ w) [])
