-- A number that is no command has no chain. For the reader, and cited by no other file: a chain that has not ended
-- within R records never ends, so line 5 is about chains of any length; and one that has ended has the same commands
-- however many more records are allowed.
use Prim.Native.Nat.{ℕ, zero, suc, ◌≤◌, ◌<◌}
use Rattle.std.proofs.Math.Decide.{ℕ_discrete}
use native.Mathlib.Omega.{arith}
use Rattle.std.specs.Prelude.{◌≡◌, Bool, true, false, List, [], ◌∷◌, ◌⊎◌}
use Rattle.std.proofs.Math.Path.{refl, ap}
use Rattle.std.proofs.Common.{sym, ◌∙◌, true≢false, inl, inr}
use Rattle.spec.specs.Catalogue.{commands, records, command, next, within, head, ends, follow, chain}

-- 0 and a number above N are no commands
pub no_chain : (c : List ℕ) (a : ℕ) → within 1 (commands c) a ≡ false → chain c a ≡ []
unfolding follow
no_chain c a e = rw e (nil (records c))
  where
    nil : (n : ℕ) → follow c n 0 ≡ []
    nil zero = refl
    nil (suc n) = refl

-- how many of the numbers 1 to n pass a test
abbrev count_step : Bool → ℕ → ℕ
count_step true k = suc k
count_step false k = k

unfoldable count : (ℕ → Bool) → ℕ → ℕ
count p zero = 0
count p (suc n) = count_step (p (suc n)) (count p n)

count_most : (p : ℕ → Bool) (n : ℕ) → count p n ≤ n
unfolding count
count_most p zero = omega arith
count_most p (suc n) = go (p (suc n)) (count_most p n)
  where
    go : (t : Bool) → count p n ≤ n → count_step t (count p n) ≤ suc n
    go true h = omega arith
    go false h = omega arith

step_mono : (s t : Bool) {k l : ℕ} → (s ≡ true → t ≡ true) → k ≤ l → count_step s k ≤ count_step t l
step_mono true true f h = omega arith
step_mono true false f h = absurd (true≢false (sym (f refl)))
step_mono false true f h = omega arith
step_mono false false f h = h

step_suc : (t : Bool) (k : ℕ) → count_step t (suc k) ≡ suc (count_step t k)
step_suc true k = refl
step_suc false k = refl

module _ (p q : ℕ → Bool) (f : (j : ℕ) → p j ≡ true → q j ≡ true) where
  count_mono : (n : ℕ) → count p n ≤ count q n
  unfolding count
  count_mono zero = omega arith
  count_mono (suc n) = step_mono (p (suc n)) (q (suc n)) (f (suc n)) (count_mono n)

  -- the second test passes one number more
  count_more : (n j : ℕ) → 1 ≤ j → j ≤ n → p j ≡ false → q j ≡ true → count p n < count q n
  unfolding count
  count_more zero j l h e t = absurd (omega arith)
  count_more (suc n) j l h e t = go (ℕ_discrete j (suc n)) (λ r. count_more n j l r e t)
    where
      go : Dec (j ≡ suc n) → (j ≤ n → count p n < count q n)
          → count_step (p (suc n)) (count p n) < count_step (q (suc n)) (count q n)
      go (yes r) k = rw (ap p (sym r) ∙ e, ap q (sym r) ∙ t) (omega (arith, count_mono n))
      go (no r) k =
          let m = step_mono (p (suc n)) (q (suc n)) (f (suc n)) (k (omega arith)) in
          omega (arith, step_suc (p (suc n)) (count p n), m)

module _ (c : List ℕ) where
  -- more records do no harm
  pub ends_more : (n m i : ℕ) → n ≤ m → ends c n i ≡ true → ends c m i ≡ true
  unfolding ends
  ends_more zero zero i h e = e
  ends_more zero (suc m) zero h e = refl
  ends_more zero (suc m) (suc i) h e = absurd (true≢false (sym e))
  ends_more (suc n) zero i h e = absurd (omega arith)
  ends_more (suc n) (suc m) zero h e = refl
  ends_more (suc n) (suc m) (suc i) h e = ends_more n m (next c (suc i)) (omega arith) e

  pub follow_more : (n m i : ℕ) → n ≤ m → ends c n i ≡ true → follow c m i ≡ follow c n i
  unfolding ends follow
  follow_more zero zero i h e = refl
  follow_more zero (suc m) zero h e = refl
  follow_more zero (suc m) (suc i) h e = absurd (true≢false (sym e))
  follow_more (suc n) zero i h e = absurd (omega arith)
  follow_more (suc n) (suc m) zero h e = refl
  follow_more (suc n) (suc m) (suc i) h e =
      ap (λ l. command c (suc i) ∷ l) (follow_more n m (next c (suc i)) (omega arith) e)

  -- a chain that ends does so at once or in a last step
  ends_last : (n i : ℕ) → ends c n i ≡ true
      → (ends c 0 i ≡ true) ⊎ ((m : ℕ) × (ends c m i ≡ false) × (ends c (suc m) i ≡ true))
  ends_last zero i e = inl e
  ends_last (suc n) i e = go (ends c n i) refl (ends_last n i)
    where
      go : (t : Bool) → ends c n i ≡ t
          → (ends c n i ≡ true → (ends c 0 i ≡ true) ⊎ ((m : ℕ) × (ends c m i ≡ false) × (ends c (suc m) i ≡ true)))
          → (ends c 0 i ≡ true) ⊎ ((m : ℕ) × (ends c m i ≡ false) × (ends c (suc m) i ≡ true))
      go true r f = f r
      go false r f = inr (n, r, e)

  module _ (nexts : (j : ℕ) → 1 ≤ j → j ≤ records c → next c j ≤ records c) where
    -- a record that ends in step m + 1 and not before is one more
    ends-count_more : (m i : ℕ) → 1 ≤ i → i ≤ records c → ends c m i ≡ false → ends c (suc m) i ≡ true
        → count (ends c m) (records c) < count (ends c (suc m)) (records c)
    ends-count_more m i =
        count_more (ends c m) (ends c (suc m)) (λ j. ends_more m (suc m) j (omega arith)) (records c) i

    -- each record on the way is one more, so those that end within m + 1 steps are more than m
    ends-count : (m i : ℕ) → i ≤ records c → ends c m i ≡ false → ends c (suc m) i ≡ true
        → m < count (ends c (suc m)) (records c)
    unfolding ends
    ends-count zero zero h f t = absurd (true≢false f)
    ends-count zero (suc i) h f t = omega (arith, ends-count_more zero (suc i) (omega arith) h f t)
    ends-count (suc m) zero h f t = absurd (true≢false f)
    ends-count (suc m) (suc i) h f t =
        let g = ends-count m (next c (suc i)) (nexts (suc i) (omega arith) h) f t in
        omega (arith, g, ends-count_more (suc m) (suc i) (omega arith) h f t)

    pub ends_within : (n i : ℕ) → i ≤ records c → ends c n i ≡ true → ends c (records c) i ≡ true
    ends_within n i h e = go (ends_last n i e)
      where
        go : (ends c 0 i ≡ true) ⊎ ((m : ℕ) × (ends c m i ≡ false) × (ends c (suc m) i ≡ true))
            → ends c (records c) i ≡ true
        go (inl r) = ends_more 0 (records c) i (omega arith) r
        go (inr w) =
            let g = ends-count w.0 i h w.1 w.2 in
            ends_more (suc w.0) (records c) i (omega (arith, g, count_most (ends c (suc w.0)) (records c))) w.2

    -- R records are enough: a chain that has not ended then never ends
    pub ends_enough : (i : ℕ) → i ≤ records c → ends c (records c) i ≡ false → (n : ℕ) → ends c n i ≡ false
    ends_enough i h f n = go (ends c n i) refl
      where
        go : (t : Bool) → ends c n i ≡ t → ends c n i ≡ false
        go true e = absurd (true≢false (sym (ends_within n i h e) ∙ f))
        go false e = e

  -- the commands of a chain that ends are the same however many more records are allowed
  pub chain_whole : (a n : ℕ) → ends c (records c) (head c a) ≡ true → records c ≤ n
      → follow c n (head c a) ≡ chain c a
  chain_whole a n e h = follow_more (records c) n (head c a) h e
