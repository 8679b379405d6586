-- The digits of a number, one after another, as the loop of `digits` meets them.
use Rattle.std.specs.Prelude.{ℕ, ◌+◌, ◌*◌, ◌≤◌, ◌<◌, ◌≡◌, refl, List, ◌∷◌, length, drop, get_or}
use Rattle.std.proofs.Common.{arith, sym, ◌∙◌, subst}
use Rattle.std.proofs.Math.Path.{ap}
use Rattle.spec.specs.Notation.{Token, digit, token_of, tokens}
use Rattle.spec.specs.Notation.{Digits, last, more}
use Rattle.notation_laws.specs.Ended.{NoDigit}
use Rattle.notation_laws.specs.Here as here
use Rattle.notation_laws.specs.Here.{digits_from, number_of, Small, SmallNumber}
use Rattle.notation_laws.specs.EndedLaws.{digits_bounds}
use Rattle.notation_laws.specs.HereLaws.{digits_from_lem, no_number}
use Rattle.notation_laws.specs.TokensLaws.{tokens_at}
use Rattle.notation_parts.specs.Numbers.{NumberRead}
use Rattle.notation_parts.specs.declared.Number.{Number}

-- a number ends where no digit follows
no_more : (v : ℕ) (z : List Token) → NoDigit z → digits_from v z ≡ record { value = v; rest = z }
no_more v z e = let l : v ≤ v = omega arith in digits_from_lem {high = v} (last l) e

-- one digit more of a number that stays small
small_more : {v d : ℕ} {z : List Token} → Small v (digit d ∷ z) → (10 * v + d ≤ 255) × Small (10 * v + d) z
small_more {v} {d} {z} (m, k, p, e) = go p e
  where
    go : {m : List Token} {k : ℕ} → Digits 255 v (digit d ∷ z) m k → NoDigit m
        → (10 * v + d ≤ 255) × Small (10 * v + d) z
    go (last h) e = absurd e
    go {m} {k} (more l p) e = let (a, b) = digits_bounds p in (omega arith, (m, k, p, e))

-- digits that began at place `at` with the value v₀ have come to place i with the value v
pub record Scanned (s : List ℕ) (v₀ at v i : ℕ) : Type 0 where
  pub same : digits_from v₀ (drop at (tokens s)) ≡ digits_from v (drop i (tokens s))
  pub small : Small v (drop i (tokens s))
  pub onward : at ≤ i
  pub within : at ≤ length s → i ≤ length s

module _ (s : List ℕ) where
  pub scan_start : (v at : ℕ) → Small v (drop at (tokens s)) → Scanned s v at v at
  scan_start v at h = record { same = refl; small = h; onward = omega arith; within = λ l. l }

  -- what is read at place i, where a number has the value v so far
  read_end : (n : here.Number) (at v i : ℕ) → at ≤ i → (at ≤ length s → i ≤ length s)
      → n ≡ record { value = v; rest = drop i (tokens s) } → NumberRead s n at (record { value = v; end = i })
  read_end n at v i o w e =
      record {
        value = sym (ap (λ k. k.value) e);
        left = sym (ap (λ k. k.rest) e);
        onward = o;
        within = w;
      }

  module _ {v₀ at v i : ℕ} (g : Scanned s v₀ at v i) where
    -- a digit stands at place i
    module _ {d : ℕ} (l : i < length s) (e : digit d ≡ token_of (get_or s i 0)) where
      grown : (10 * v + d ≤ 255) × Small (10 * v + d) (drop (i + 1) (tokens s))
      grown = small_more (subst (λ z. Small v z) (tokens_at s i l e) g.small)

      pub scan_room : 10 * v + d ≤ 255
      scan_room = grown.0

      pub scan_again : Scanned s v₀ at (10 * v + d) (i + 1)
      unfolding digits_from
      scan_again =
          record {
            same = g.same ∙ ap (λ z. digits_from v z) (tokens_at s i l e);
            small = grown.1;
            onward = omega (arith, g.onward);
            within = λ h. omega arith;
          }

    -- the number ends at place i
    pub scan_end : NoDigit (drop i (tokens s))
        → NumberRead s (digits_from v₀ (drop at (tokens s))) at (record { value = v; end = i })
    scan_end h = read_end _ at v i g.onward g.within (g.same ∙ no_more v (drop i (tokens s)) h)

    -- the number ends with the text
    pub scan_past : length s ≤ i → at ≤ length s → NoDigit (drop i (tokens s))
        → NumberRead s (digits_from v₀ (drop at (tokens s))) at (record { value = v; end = length s })
    scan_past l w h =
        let e : i ≡ length s = omega (arith, g.within w) in
        subst (λ z. NumberRead s (digits_from v₀ (drop at (tokens s))) at (record { value = v; end = z })) e (scan_end h)

  -- a number that stands at place `at`
  module _ (at : ℕ) where
    -- no digit does
    pub number_none : NoDigit (drop at (tokens s))
        → NumberRead s (number_of (drop at (tokens s))) at (record { value = 1; end = at })
    number_none h = read_end _ at 1 at (omega arith) (λ k. k) (no_number (drop at (tokens s)) h)

    module _ {d : ℕ} (l : at < length s) (e : digit d ≡ token_of (get_or s at 0)) where
      pub number_small : SmallNumber (drop at (tokens s)) → Small d (drop (at + 1) (tokens s))
      number_small h = subst (λ z. SmallNumber z) (tokens_at s at l e) h

      pub number_more : (r : Number) → NumberRead s (digits_from d (drop (at + 1) (tokens s))) (at + 1) r
          → NumberRead s (number_of (drop at (tokens s))) at r
      number_more r h =
          let n : number_of (drop at (tokens s)) ≡ digits_from d (drop (at + 1) (tokens s)) =
          ap number_of (tokens_at s at l e) in
          record {
            value = h.value ∙ sym (ap (λ k. k.value) n);
            left = h.left ∙ sym (ap (λ k. k.rest) n);
            onward = omega (arith, h.onward);
            within = λ k. h.within (omega arith);
          }
