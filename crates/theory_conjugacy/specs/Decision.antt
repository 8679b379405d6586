-- Whether two words are conjugate (the manual: joined), computed: their cores use the same commands, and for each part
-- the rings have equal length and one is a rotation of the other.
use Rattle.std.specs.Prelude.{ℕ, Bool, true, false, ◌&&◌, List, [], ◌∷◌, length, eqb}
use Rattle.std.proofs.Math.Option.{Option, none, some}
use Rattle.theory_words.specs.Alike.{alike?}
use Rattle.theory_words.specs.Alphabet.{Alphabet, Word}
use Rattle.theory_conjugacy.specs.Core.{core}
use Rattle.theory_conjugacy.specs.Part.{commands, apexes, part}
use Rattle.theory_conjugacy.specs.Settle.{ring}
use Rattle.theory_conjugacy.specs.Rotation.{rotation}

unfoldable pub found? : Option ℕ → Bool
found? none = false
found? (some i) = true

module _ (Γ : Alphabet) where
  -- a part with s commands is settled after at most s rounds
  unfoldable pub settled_ring : ℕ → Word Γ → Word Γ
  settled_ring m p = ring Γ m (length (commands Γ p)) p

  unfoldable pub part_ring : ℕ → Word Γ → Word Γ
  part_ring m x = settled_ring m (part Γ m x)

  unfoldable pub rotated? : Word Γ → Word Γ → Bool
  rotated? r t = eqb (length r) (length t) && found? (rotation Γ r t)

  -- the rings of the parts with these apexes
  unfoldable pub parts_joined? : List ℕ → Word Γ → Word Γ → Bool
  parts_joined? [] x y = true
  parts_joined? (m ∷ ms) x y = rotated? (part_ring m x) (part_ring m y) && parts_joined? ms x y

  unfoldable pub cores_joined? : Word Γ → Word Γ → Bool
  cores_joined? x y = alike? (commands Γ x) (commands Γ y) && parts_joined? (apexes Γ x) x y

  unfoldable pub joined? : Word Γ → Word Γ → Bool
  joined? v w = cores_joined? (core Γ v) (core Γ w)
