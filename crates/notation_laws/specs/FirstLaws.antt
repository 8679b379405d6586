-- The first of two places, where each may be none.
use Rattle.std.specs.Prelude.{ℕ, ◌≡◌, refl, Bool, true, false}
use Rattle.std.proofs.Common.{sym}
use Rattle.std.proofs.Math.Option.{Option, none, some}
use Rattle.spec.specs.Table.{found_step}
use Rattle.spec.specs.Notation.{first}
use Rattle.spec_laws.specs.TableLaws.{none-some}

pub first_assoc : (o p q : Option ℕ) → first o (first p q) ≡ first (first o p) q
first_assoc none p q = refl
first_assoc (some l) p q = refl

pub first_alone : (o : Option ℕ) → first o none ≡ o
first_alone none = refl
first_alone (some l) = refl

pub first-none : (o p : Option ℕ) → first o p ≡ none → (o ≡ none) × (p ≡ none)
first-none none p e = (refl, e)
first-none (some l) p e = absurd (none-some (sym e))

-- what is found here, or else behind
pub found_first : (b : Bool) (i : ℕ) (o : Option ℕ) → found_step b i o ≡ first (found_step b i none) o
found_first true i o = refl
found_first false i o = refl
