-- No definitions: the laws that the record of an alphabet asks for (Letters), of undoing and of conflicts. They hold
-- for every number, so also for those that no plan holds.
use Rattle.std.specs.Prelude.{ℕ, ◌+◌, ◌-◌, ◌≤◌, ◌<◌, ◌≡◌, refl, Bool, true, false, ◌||◌, List, leb, eqb}
use Rattle.std.proofs.Common.{sym, ◌∙◌, ap, arith, leb-true, leb-false, le-leb, eqb-true, eq-eqb, ne_eqb}
use Rattle.std.proofs.Math.Path.{ap₂}
use Rattle.std.proofs.Math.Bool.{and-false}
use Rattle.std.proofs.Math.Nat.{add-mod_right}
use Rattle.std.proofs.lemmas.Bool.{lt-leb, eqb-false}
use Rattle.spec.specs.Catalogue.{within}
use Rattle.spec.specs.Conflict.{names, conflict_by, conflict}
use Rattle.spec.specs.Byte.{command_of, undone}

pub within_in : (low high b : ℕ) → low ≤ b → b ≤ high → within low high b ≡ true
within_in low high b l h = rw (le-leb low b l, le-leb b high h)

pub within_under : (low high b : ℕ) → b < low → within low high b ≡ false
within_under low high b l = rw (lt-leb low b l)

pub within_over : (low high b : ℕ) → high < b → within low high b ≡ false
within_over low high b h = rw (lt-leb b high h) (and-false (leb low b))

-- where a number stands to two ends
pub data Side (low high b : ℕ) : Type 0 where
  under : b < low → Side low high b
  amid : low ≤ b → b ≤ high → Side low high b
  over : high < b → Side low high b

pub side : (low high b : ℕ) → Side low high b
side low high b = go (leb low b) (leb b high) refl refl
  where
    go : (p q : Bool) → leb low b ≡ p → leb b high ≡ q → Side low high b
    go true true e f = amid (leb-true low b e) (leb-true b high f)
    go true false e f = over (leb-false b high f)
    go false true e f = under (leb-false low b e)
    go false false e f = under (leb-false low b e)

pub undone_does : (b : ℕ) → 1 ≤ b → b ≤ 127 → undone b ≡ b + 128
unfolding undone
undone_does b l h = rw (within_in 1 127 b l h)

pub undone_undoes : (b : ℕ) → 129 ≤ b → b ≤ 255 → undone b ≡ b - 128
unfolding undone
undone_undoes b l h = rw (within_over 1 127 b (omega arith), within_in 129 255 b l h)

pub undone_zero : (b : ℕ) → b < 1 → undone b ≡ b
unfolding undone
undone_zero b l = rw (within_under 1 127 b l, within_under 129 255 b (omega arith))

pub undone_128 : (b : ℕ) → 127 < b → b < 129 → undone b ≡ b
unfolding undone
undone_128 b l h = rw (within_over 1 127 b l, within_under 129 255 b h)

undone_high : (b : ℕ) → 255 < b → undone b ≡ b
unfolding undone
undone_high b h = rw (within_over 1 127 b (omega arith), within_over 129 255 b h)

-- the numbers that undone tells apart
pub data Kind (b : ℕ) : Type 0 where
  does : 1 ≤ b → b ≤ 127 → undone b ≡ b + 128 → Kind b
  undoes : 129 ≤ b → b ≤ 255 → undone b ≡ b - 128 → Kind b
  neither : undone b ≡ b → Kind b

pub kind : (b : ℕ) → Kind b
kind b = go (side 1 127 b) (side 129 255 b)
  where
    go : Side 1 127 b → Side 129 255 b → Kind b
    go (under l) s = neither (undone_zero b l)
    go (amid l h) s = does l h (undone_does b l h)
    go (over k) (under l) = neither (undone_128 b k l)
    go (over k) (amid l h) = undoes l h (undone_undoes b l h)
    go (over k) (over h) = neither (undone_high b h)

pub undone-undone : (b : ℕ) → undone (undone b) ≡ b
undone-undone b = go (kind b)
  where
    go : Kind b → undone (undone b) ≡ b
    go (does l h e) = rw e (undone_undoes (b + 128) (omega arith) (omega arith) ∙ omega arith)
    go (undoes l h e) = rw e (undone_does (b - 128) (omega arith) (omega arith) ∙ omega arith)
    go (neither e) = ap undone e ∙ e

sub-add : (b : ℕ) → 129 ≤ b → b - 128 + 128 ≡ b
sub-add b l = omega arith

pub command_undone : (b : ℕ) → command_of (undone b) ≡ command_of b
command_undone b = go (kind b)
  where
    go : Kind b → command_of (undone b) ≡ command_of b
    go (does l h e) = ap command_of e ∙ add-mod_right b 128
    go (undoes l h e) = ap command_of e ∙ sym (add-mod_right (b - 128) 128) ∙ ap command_of (sub-add b l)
    go (neither e) = ap command_of e

or_comm : (p q : Bool) → (p || q) ≡ (q || p)
or_comm true true = refl
or_comm true false = refl
or_comm false true = refl
or_comm false false = refl

pub eqb_sym : (a b : ℕ) → eqb a b ≡ eqb b a
eqb_sym a b = go (eqb a b) refl
  where
    go : (t : Bool) → eqb a b ≡ t → eqb a b ≡ eqb b a
    go true e = e ∙ sym (eq-eqb b a (sym (eqb-true a b e)))
    go false e = e ∙ sym (ne_eqb b a (λ h. eqb-false a b e (sym h)))

-- conflicts, for all pairs together
module _ (p : ℕ → ℕ → Bool) where
  pub by_refl : (a : ℕ) → conflict_by p a a ≡ true
  unfolding conflict_by
  by_refl a = rw (eq-eqb a a refl)

  pub by_sym : (a b : ℕ) → conflict_by p a b ≡ conflict_by p b a
  unfolding conflict_by
  by_sym a b = ap₂ (λ r s. r || s) (eqb_sym a b) (or_comm (p a b) (p b a))

pub conflict_refl : (c : List ℕ) (a : ℕ) → conflict c a a ≡ true
conflict_refl c = by_refl (names c)

pub conflict_sym : (c : List ℕ) (a b : ℕ) → conflict c a b ≡ conflict c b a
conflict_sym c = by_sym (names c)
