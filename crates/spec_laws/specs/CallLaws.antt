-- Laws of the calls' definitions: what an answer tells of the table, of an area, of the plans.
use Rattle.std.specs.Prelude.{ℕ, ◌≤◌, ◌≡◌, refl, Bool, true, false, List, ◌↔◌, ltb}
use Rattle.std.proofs.Math.Option.{Option, none, some}
use Rattle.std.proofs.Common.{arith, ltb-false}
use Rattle.theory_words.specs.BoolLaws.{true_same}
use Rattle.theory_words.specs.Alike.{alike?}
use Rattle.theory_words.specs.AlikeLaws.{alike_exact}
use Rattle.spec.specs.Table.{Line, line, holds, refused, given, first_line, or_else}
use Rattle.spec_laws.specs.TableLaws.{none_holds}
use Rattle.spec.specs.Catalogue.{commands, or_if, count_line, catalogue_lines}

module _ {A : Type 0} where
  pub answer_refused : (o : Option Line) (a : A) (l : Line) → (or_else o a ≡ refused l) ↔ (o ≡ some l)
  answer_refused none a l = (
    λ e. absurd (let z : ◌≡◌ {A = ℕ} 0 1 = cc in omega arith),
    λ e. absurd (let z : ◌≡◌ {A = ℕ} 0 1 = cc in omega arith),
  )
  answer_refused (some k) a l = (λ e. cc, λ e. cc)

  pub answer_given : (o : Option Line) (a b : A) → or_else o a ≡ given b → (o ≡ none) × (a ≡ b)
  answer_given none a b e = (refl, cc)
  answer_given (some k) a b e = absurd (let z : ◌≡◌ {A = ℕ} 0 1 = cc in omega arith)

pub holds-none : (t : Bool) (l : Line) → holds t l ≡ none → t ≡ false
holds-none true l e = absurd (let z : ◌≡◌ {A = ℕ} 0 1 = cc in omega arith)
holds-none false l e = refl

pub or_none : (o p : Option Line) → or_if o p ≡ none → (o ≡ none) × (p ≡ none)
or_none none p e = (refl, e)
or_none (some l) p e = absurd (let z : ◌≡◌ {A = ℕ} 0 1 = cc in omega arith)

-- a catalogue that line 2 does not refuse has at most 24 commands
pub counted_few : (c : List ℕ) → count_line c ≡ none → commands c ≤ 24
counted_few c e = ltb-false 24 (commands c) (holds-none (ltb 24 (commands c)) (line 2 0 0) e)

pub few_commands : (c : List ℕ) → first_line (catalogue_lines c) ≡ none → commands c ≤ 24
few_commands c e = counted_few c ((none_holds (catalogue_lines c)).0 e).1.0

-- a comparison that is exact gives the answer that the definition computes
pub exact_alike : (b : Bool) (v w : List ℕ) → (b ≡ true) ↔ (v ≡ w) → b ≡ alike? v w
exact_alike b v w h =
    true_same b (alike? v w) (λ e. (alike_exact v w).1 (h.0 e)) (λ e. h.1 ((alike_exact v w).0 e))
