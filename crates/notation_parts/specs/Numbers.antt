-- A number that was read at a place of a text: its value, and where it ends.
use Rattle.std.specs.Prelude.{ℕ, ◌≤◌, ◌≡◌, List, length, drop}
use Rattle.spec.specs.Notation.{tokens}
use Rattle.notation_laws.specs.Here as here
use Rattle.notation_parts.specs.declared.Number.{Number}

-- n is what is read of the text s from place `at` on
pub record NumberRead (s : List ℕ) (n : here.Number) (at : ℕ) (r : Number) : Type 0 where
  pub value : r.value ≡ n.value
  pub left : drop r.end (tokens s) ≡ n.rest
  pub onward : at ≤ r.end
  pub within : at ≤ length s → r.end ≤ length s
