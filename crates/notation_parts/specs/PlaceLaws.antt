-- What stands at a place of a text, from the byte there.
use Rattle.std.specs.Prelude.{ℕ, ◌-◌, ◌<◌, ◌≡◌, refl, Bool, true, false, not, List, [], ◌⊎◌, eqb, ltb, length, drop, get_or}
use Rattle.std.proofs.Common.{arith, sym, ◌∙◌, ap, inl, inr, eqb-true, ne_eqb, ltb-true, ltb-false}
use Rattle.std.proofs.lemmas.Bool.{false≢true}
use Rattle.spec.specs.Catalogue.{within}
use Rattle.spec.specs.Notation.{Token, token_step, token_of, tokens}
use Rattle.notation_laws.specs.Here.{mark_of, Mark, marked, goes_on}
use Rattle.notation_laws.specs.TokensLaws.{tokens_at, tokens_past}

-- bytes that stand for a blank, a bracket or a minus

pub blank_mark : Mark 32
unfolding token_of
blank_mark = record { its_own = refl; some = omega arith }

pub opening_mark : Mark 40
unfolding token_of
opening_mark = record { its_own = refl; some = omega arith }

closing_mark : Mark 41
unfolding token_of
closing_mark = record { its_own = refl; some = omega arith }

pub minus_mark : Mark 45
unfolding token_of
minus_mark = record { its_own = refl; some = omega arith }

-- every byte is one of them or has no mark
mark_byte : (x : ℕ) → (mark_of (token_of x) ≡ x) ⊎ (mark_of (token_of x) ≡ 0)
unfolding token_of
mark_byte x = go (eqb x 32) (eqb x 40) (eqb x 41) (eqb x 45) (within 48 57 x) refl refl refl refl
  where
    go : (b o c m d : Bool) → eqb x 32 ≡ b → eqb x 40 ≡ o → eqb x 41 ≡ c → eqb x 45 ≡ m
        → let k = mark_of (token_step b o c m d (x - 48)) in (k ≡ x) ⊎ (k ≡ 0)
    go true o c m d p q r t = inl (sym (eqb-true x 32 p))
    go false true c m d p q r t = inl (sym (eqb-true x 40 q))
    go false false true m d p q r t = inl (sym (eqb-true x 41 r))
    go false false false true d p q r t = inl (sym (eqb-true x 45 t))
    go false false false false true p q r t = inr refl
    go false false false false false p q r t = inr refl

same_mark : (x b : ℕ) → Mark b → eqb (mark_of (token_of x)) b ≡ eqb x b
same_mark x b k = go (mark_byte x)
  where
    go : (mark_of (token_of x) ≡ x) ⊎ (mark_of (token_of x) ≡ 0) → eqb (mark_of (token_of x)) b ≡ eqb x b
    go (inl e) = ap (λ y. eqb y b) e
    go (inr e) =
        ap (λ y. eqb y b) e ∙ ne_eqb 0 b (omega (arith, k.some))
        ∙ sym (ne_eqb x b (λ f. omega (arith, ap (λ y. mark_of (token_of y)) f, k.its_own, k.some)))

module _ (s : List ℕ) (i : ℕ) where
  -- what stands at a place within the text, from the byte there
  module _ (h : i < length s) where
    pub stands_at : (b : ℕ) → Mark b → eqb (get_or s i 0) b ≡ marked (drop i (tokens s)) b
    stands_at b k = sym (ap (λ z. marked z b) (tokens_at s i h refl) ∙ same_mark (get_or s i 0) b k)

    pub goes_at : not (eqb (get_or s i 0) 41) ≡ goes_on (drop i (tokens s))
    goes_at = sym (ap goes_on (tokens_at s i h refl) ∙ ap not (same_mark (get_or s i 0) 41 closing_mark))

  -- what stands at a place stands within the text
  within_of : (f : List Token → Bool) → f [] ≡ false → f (drop i (tokens s)) ≡ true → i < length s
  within_of f n e = go (ltb i (length s)) refl
    where
      go : (b : Bool) → ltb i (length s) ≡ b → i < length s
      go true t = ltb-true i (length s) t
      go false t = absurd (false≢true (sym n ∙ sym (ap f (tokens_past s i (ltb-false i (length s) t))) ∙ e))

  pub marked_within : (b : ℕ) → marked (drop i (tokens s)) b ≡ true → i < length s
  marked_within b e = within_of (λ z. marked z b) refl e

  pub goes_within : goes_on (drop i (tokens s)) ≡ true → i < length s
  goes_within e = within_of goes_on refl e
