-- Conflicts are what the manual says, for all pairs together, and the table of a catalogue tells them.
use Rattle.std.specs.Prelude.{ℕ, zero, suc, ◌+◌, ◌<◌, ◌≡◌, refl, Bool, true, false, ◌||◌, ◌↔◌, ◌⊎◌, get_or, eqb}
use Rattle.std.proofs.Common.{sym, ◌∙◌, ap, true≢false, inl, arith, eqb-true, eq-eqb}
use Rattle.std.proofs.Math.Path.{fun_ext}
use mathlib.Core.List.{List, [], ◌∷◌, map, Memᴰ}
use Rattle.std.proofs.Math.Logic.{inr}
use Rattle.theory_words.specs.BoolLaws.{true_same, or_either}
use Rattle.spec.specs.Catalogue.{chain, stands}
use Rattle.spec.specs.Conflict.{Names, ConflictingBy, Conflicting, names, conflict_by, conflict}
use Rattle.spec.specs.Answers.{yes_no}
use Rattle.spec.specs.Calls.{numbers, conflict_rows}

or_right : (p q : Bool) → q ≡ true → (p || q) ≡ true
or_right true q e = refl
or_right false q e = e

pub stands_in : (a : ℕ) (l : List ℕ) → stands a l ≡ true → Memᴰ a l
unfolding stands
stands_in a [] e = absurd (true≢false (sym e))
stands_in a (b ∷ bs) e = go (or_either (eqb a b) (stands a bs) e) (stands_in a bs)
  where
    go : (eqb a b ≡ true) ⊎ (stands a bs ≡ true) → (stands a bs ≡ true → Memᴰ a bs) → Memᴰ a (b ∷ bs)
    go (inl t) f = Memᴰ.head (eqb-true a b t)
    go (inr t) f = Memᴰ.tail (f t)

pub in_stands : (a : ℕ) {l : List ℕ} → Memᴰ a l → stands a l ≡ true
unfolding stands
in_stands a (Memᴰ.head {x = b} e) = rw (eq-eqb a b e)
in_stands a (Memᴰ.tail {x = b} {xs = bs} m) = or_right (eqb a b) (stands a bs) (in_stands a m)

-- the test of a pair is exact
names_exact : (c : List ℕ) (a b : ℕ) → (names c a b ≡ true) ↔ Names c a b
unfolding names
names_exact c a b = (stands_in b (chain c a), in_stands b)

-- the test of a conflict is exact, for all pairs with an exact test
module _ (p : ℕ → ℕ → Bool) (P : ℕ → ℕ → Type 0) (exact : (a b : ℕ) → (p a b ≡ true) ↔ P a b) (a b : ℕ) where
  by_says : conflict_by p a b ≡ true → ConflictingBy P a b
  unfolding conflict_by
  by_says e = go (or_either (eqb a b) (p a b || p b a) e)
    where
      met : (p a b ≡ true) ⊎ (p b a ≡ true) → ConflictingBy P a b
      met (inl t) = inr (inl ((exact a b).0 t))
      met (inr t) = inr (inr ((exact b a).0 t))

      go : (eqb a b ≡ true) ⊎ ((p a b || p b a) ≡ true) → ConflictingBy P a b
      go (inl t) = inl (eqb-true a b t)
      go (inr t) = met (or_either (p a b) (p b a) t)

  says_by : ConflictingBy P a b → conflict_by p a b ≡ true
  unfolding conflict_by
  says_by (inl e) = rw (eq-eqb a b e)
  says_by (inr (inl m)) = or_right (eqb a b) (p a b || p b a) (rw ((exact a b).1 m))
  says_by (inr (inr m)) = or_right (eqb a b) (p a b || p b a) (or_right (p a b) (p b a) ((exact b a).1 m))

  by_exact : (conflict_by p a b ≡ true) ↔ ConflictingBy P a b
  by_exact = (by_says, says_by)

pub conflict_exact : (c : List ℕ) (a b : ℕ) → (conflict c a b ≡ true) ↔ Conflicting c a b
conflict_exact c a b = by_exact (names c) (Names c) (names_exact c) a b

-- catalogues that name the same pairs, of whichever editions, have the same conflicts
module _ (c d : List ℕ) (same : (a b : ℕ) → Names c a b ↔ Names d a b) where
  names_same : (a b : ℕ) → names c a b ≡ names d a b
  names_same a b =
      true_same (names c a b) (names d a b)
      (λ t. (names_exact d a b).1 ((same a b).0 ((names_exact c a b).0 t)))
      (λ t. (names_exact c a b).1 ((same a b).1 ((names_exact d a b).0 t)))

  pub pairs_same : names c ≡ names d
  pairs_same = fun_ext (λ a. fun_ext (λ b. names_same a b))

  pub conflict_same : (a b : ℕ) → conflict c a b ≡ conflict d a b
  conflict_same a b = ap (λ p. conflict_by p a b) pairs_same

-- so many numbers, from a on
unfoldable pub count : ℕ → ℕ → List ℕ
count a zero = []
count a (suc n) = a ∷ count (suc a) n

count_at_lem : {A : Type 0} (d : A) (f : ℕ → A) (a n i : ℕ) → i < n → get_or (map f (count a n)) i d ≡ f (i + a)
unfolding count
count_at_lem d f a zero i h = absurd (omega arith)
count_at_lem d f a (suc n) zero h = let e : a ≡ 0 + a = omega arith in ap f e
count_at_lem d f a (suc n) (suc i) h =
    let e : i + suc a ≡ suc i + a = omega arith in
    count_at_lem d f (suc a) n i (omega arith) ∙ ap f e

number_at : {A : Type 0} (d : A) (f : ℕ → A) (i : ℕ) → i < 24 → get_or (map f numbers) i d ≡ f (i + 1)
unfolding numbers count
number_at d f i h = count_at_lem d f 1 24 i h

pub rows_tell : (c : List ℕ) (i j : ℕ) → i < 24 → j < 24
    → get_or (get_or (conflict_rows c) i []) j 0 ≡ yes_no (conflict c (i + 1) (j + 1))
unfolding conflict_rows
rows_tell c i j h l =
    rw (number_at [] (λ a. map (λ b. yes_no (conflict c a b)) numbers) i h)
    (number_at 0 (λ b. yes_no (conflict c (i + 1) b)) j l)
