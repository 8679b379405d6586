-- Laws of the search for the first number that passes a test, with the invariant of a loop that does such a search;
-- and what a check that passes, or is refused, tells of its line.
use Prim.Native.Nat.{ℕ, zero, suc, ◌+◌, ◌-◌, ◌≤◌, ◌<◌}
use Rattle.std.proofs.Math.Decide.{ℕ_discrete}
use Rattle.std.proofs.Common.{add-one, sym, ◌∙◌}
use native.Mathlib.Omega.{arith}
use Rattle.std.specs.Prelude.{◌≡◌, Bool}
use Rattle.std.proofs.Math.Path.{refl, ap}
use Rattle.std.proofs.Math.Bool.{true, false}
use Rattle.std.proofs.Math.Option.{Option, none, some}
use Rattle.spec.specs.Table.{Line, refused, given, or_else, first_of, found_step}

none_not : {A : Type 0} {a : A} → some a ≡ none → ⊥
none_not e = let z : ◌≡◌ {A = ℕ} 0 1 = cc in omega arith

pub given_not : {A : Type 0} {a : A} {l : Line} → given a ≡ refused l → ⊥
given_not e = let z : ◌≡◌ {A = ℕ} 0 1 = cc in omega arith

pub found_step_none : (b : Bool) (i : ℕ) {o : Option ℕ} → found_step b i o ≡ none → (b ≡ false) × (o ≡ none)
found_step_none true i e = absurd (none_not e)
found_step_none false i e = (refl, e)

module _ (p : ℕ → Bool) where
  -- a search of n numbers from s has come to i and passed all before it
  pub record Searching (n s i : ℕ) : Type 0 where
    pub low : s ≤ i
    pub high : i ≤ s + n
    pub rest : first_of p n s ≡ first_of p (s + n - i) i

  pub search_start : (n s : ℕ) → Searching n s s
  search_start n s = record { low = omega arith; high = omega arith; rest = ap (λ k. first_of p k s) (omega arith) }

  left_suc : {n s i : ℕ} → Searching n s i → i < s + n → s + n - i ≡ suc (s + n - (i + 1))
  left_suc g h = omega arith

  pub search_again : {n s i : ℕ} → Searching n s i → i < s + n → p i ≡ false → Searching n s (i + 1)
  unfolding first_of
  search_again {n} {s} {i} g h f =
      record {
        low = omega (arith, g.low);
        high = omega arith;
        rest = g.rest ∙ ap (λ k. first_of p k i) (left_suc g h) ∙ rw (f, add-one);
      }

  pub search_hit : {n s i : ℕ} → Searching n s i → i < s + n → p i ≡ true → first_of p n s ≡ some i
  unfolding first_of
  search_hit {n} {s} {i} g h t = g.rest ∙ ap (λ k. first_of p k i) (left_suc g h) ∙ rw t

  pub search_end : {n s i : ℕ} → Searching n s i → s + n ≤ i → first_of p n s ≡ none
  unfolding first_of
  search_end {n} {s} {i} g h =
      let e : s + n - i ≡ 0 = omega arith in
      g.rest ∙ ap (λ k. first_of p k i) e

  -- what fails at s and behind it
  fails_from : {s i : ℕ} → p s ≡ false → (s < i → p i ≡ false) → s ≤ i → p i ≡ false
  fails_from {s} {i} f later l = go (ℕ_discrete i s)
    where
      go : Dec (i ≡ s) → p i ≡ false
      go (yes q) = ap p q ∙ f
      go (no q) = later (omega arith)

  -- a search that finds nothing has seen every number fail
  pub search-none : (n s : ℕ) → first_of p n s ≡ none → (i : ℕ) → s ≤ i → i < s + n → p i ≡ false
  unfolding first_of
  search-none zero s e i l h = absurd (omega arith)
  search-none (suc n) s e i l h =
      let m = found_step_none (p s) s e in
      fails_from m.0 (λ q. search-none n (suc s) m.1 i q (omega arith)) l

  pub search_all : (n s : ℕ) → ((i : ℕ) → s ≤ i → i < s + n → p i ≡ false) → first_of p n s ≡ none
  unfolding first_of
  search_all zero s f = refl
  search_all (suc n) s f =
      rw (f s (omega arith) (omega arith)) (search_all n (suc s) (λ i l h. f i (omega arith) (omega arith)))

  -- one that finds i has seen it pass, and all before it fail
  pub record FoundAt (n s i : ℕ) : Type 0 where
    pub low : s ≤ i
    pub high : i < s + n
    pub passes : p i ≡ true
    pub before : (j : ℕ) → s ≤ j → j < i → p j ≡ false

  pub search-some : (n s : ℕ) {i : ℕ} → first_of p n s ≡ some i → FoundAt n s i
  unfolding first_of
  search-some zero s e = absurd (none_not (sym e))
  search-some (suc n) s {i} e = go (p s) refl e (search-some n (suc s))
    where
      go : (t : Bool) → p s ≡ t → found_step t s (first_of p n (suc s)) ≡ some i
          → (first_of p n (suc s) ≡ some i → FoundAt n (suc s) i) → FoundAt (suc n) s i
      go true t e ih =
          let q : i ≡ s = cc in
          record {
            low = omega arith;
            high = omega arith;
            passes = ap p q ∙ t;
            before = λ j l h. absurd (omega arith);
          }
      go false t e ih =
          let f = ih e in
          record {
            low = omega (arith, f.low);
            high = omega (arith, f.high);
            passes = f.passes;
            before = λ j l h. fails_from t (λ k. f.before j k h) l;
          }

  pub search_found : (n s : ℕ) {i : ℕ} → FoundAt n s i → first_of p n s ≡ some i
  unfolding first_of
  search_found zero s f = absurd (omega (arith, f.low, f.high))
  search_found (suc n) s {i} f = go (ℕ_discrete i s) (search_found n (suc s))
    where
      go : Dec (i ≡ s) → (FoundAt n (suc s) i → first_of p n (suc s) ≡ some i)
          → found_step (p s) s (first_of p n (suc s)) ≡ some i
      go (yes q) ih = rw (ap p (sym q) ∙ f.passes) (ap some (sym q))
      go (no q) ih =
          let l : s < i = omega (arith, f.low) in
          rw (f.before s (omega arith) l) (ih (record {
            low = l;
            high = omega (arith, f.high);
            passes = f.passes;
            before = λ j k h. f.before j (omega arith) h;
          }))

module _ {A : Type 0} where
  -- a check that passes tells that its line does not hold, one that is refused that it does
  pub passed_line : (o : Option Line) {a : A} (b : A) → given a ≡ or_else o b → o ≡ none
  passed_line none b e = refl
  passed_line (some l) b e = absurd (given_not e)

  pub refused_line : (o : Option Line) {l : Line} (b : A) → refused l ≡ or_else o b → o ≡ some l
  refused_line none b e = absurd (given_not (sym e))
  refused_line (some k) b e = cc
