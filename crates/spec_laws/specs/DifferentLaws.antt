-- How many different numbers stand in a list: one whose members are all in another has at most as many, and fewer if
-- one of the other's is missing. So there are at most k if all are below k, and at least k if all below k are there.
use Rattle.std.specs.Prelude.{ℕ, zero, suc, ◌≤◌, ◌<◌, max, ◌≡◌, refl, Bool, true, false, not, ◌↔◌, length, get_or, eqb}
use Rattle.std.proofs.Common.{arith, sym, ◌∙◌, ap, true≢false, eq-eqb, ne_eqb}
use Rattle.std.proofs.Math.Decide.{ℕ_discrete, dec_le}
use mathlib.Core.List.Memᴰ
use mathlib.Core.List.{List, [], ◌∷◌, Memᴰ}
use Rattle.theory_words.specs.All.{All, all_mem, all_by, all_map}
use Rattle.theory_words.specs.BoolLaws.{true_same}
use Rattle.theory_words.specs.Filter.{filter}
use Rattle.theory_words.specs.FilterLaws.{filter_kept, filter_left, filter_whole, filter_mem, mem_filter}
use Rattle.spec.specs.Catalogue.{stands}
use Rattle.spec_laws.specs.ConflictLaws.{stands_in, in_stands}
use Rattle.spec.specs.Slots.{different_step, different}

infix 20 ◌∈◌
abbrev ◌∈◌ : ℕ → List ℕ → Type 0
n ∈ ns = Memᴰ n ns

stands_exact : (n : ℕ) (ns : List ℕ) → (stands n ns ≡ true) ↔ n ∈ ns
stands_exact n ns = (stands_in n ns, in_stands n)

not_stands : (n : ℕ) (ns : List ℕ) → stands n ns ≡ false → ¬ (n ∈ ns)
not_stands n ns e m = true≢false (sym ((stands_exact n ns).1 m) ∙ e)

-- a list without the number n

abbrev without : ℕ → List ℕ → List ℕ
without n = filter (λ m. not (eqb m n))

in_without : {n m : ℕ} (ns : List ℕ) → m ∈ ns → ¬ (m ≡ n) → m ∈ without n ns
in_without {n} {m} ns k h = mem_filter (λ i. not (eqb i n)) ns k (ap not (ne_eqb m n h))

without_none : (n : ℕ) (ns : List ℕ) → ¬ (n ∈ ns) → without n ns ≡ ns
without_none n ns h =
    filter_whole (λ m. not (eqb m n)) ns
    (all_by (λ m. not (eqb m n) ≡ true) ns (λ m k. ap not (ne_eqb m n (λ e. h (Memᴰ.cast (sym e) k)))))

stands-without : (n m : ℕ) (ns : List ℕ) → ¬ (m ≡ n) → stands m (without n ns) ≡ stands m ns
stands-without n m ns h =
    true_same (stands m (without n ns)) (stands m ns)
    (λ e. (stands_exact m ns).1 (filter_mem (λ i. not (eqb i n)) ns ((stands_exact m (without n ns)).0 e)).0)
    (λ e. (stands_exact m (without n ns)).1 (in_without ns ((stands_exact m ns).0 e) h))

step_suc : (t : Bool) (d : ℕ) → different_step t (suc d) ≡ suc (different_step t d)
step_suc true d = refl
step_suc false d = refl

different-without : (n : ℕ) (ns : List ℕ) → n ∈ ns → different ns ≡ suc (different (without n ns))
unfolding different
different-without n [] k = absurd (Memᴰ.not-nil k)
different-without n (m ∷ ms) k = go (ℕ_discrete m n) k (different-without n ms)
  where
    same : m ≡ n → (n ∈ ms → different ms ≡ suc (different (without n ms))) → (t : Bool) → stands m ms ≡ t
        → different_step t (different ms) ≡ suc (different (without n ms))
    same e f true a = f (Memᴰ.cast (sym e) ((stands_exact m ms).0 a))
    same e f false a =
        ap (λ x. suc (different x)) (sym (without_none n ms (λ i. not_stands m ms a (Memᴰ.cast e i))))

    go : Dec (m ≡ n) → n ∈ m ∷ ms → (n ∈ ms → different ms ≡ suc (different (without n ms)))
        → different (m ∷ ms) ≡ suc (different (without n (m ∷ ms)))
    go (yes e) i f =
        rw (filter_left (λ j. not (eqb j n)) m ms (ap not (eq-eqb m n e))) (same e f (stands m ms) refl)
    go (no h) (Memᴰ.head e) f = absurd (h (sym e))
    go (no h) (Memᴰ.tail i) f =
        rw (filter_kept (λ j. not (eqb j n)) m ms (ap not (ne_eqb m n h)), stands-without n m ms h, f i)
        (step_suc (stands m ms) (different (without n ms)))

abbrev Within : List ℕ → List ℕ → Type 0
Within ns ms = (k : ℕ) → k ∈ ns → k ∈ ms

-- n is missing in ns, of which different_within is known
fewer : (n : ℕ) (ns ms : List ℕ) → Within ns ms → n ∈ ms → ¬ (n ∈ ns)
    → ((is : List ℕ) → Within ns is → different ns ≤ different is) → different ns < different ms
fewer n ns ms f m h g =
    let l = g (without n ms) (λ k i. in_without ms (f k i) (λ e. h (Memᴰ.cast (sym e) i))) in
    omega (arith, different-without n ms m)

pub different_within : (ns ms : List ℕ) → Within ns ms → different ns ≤ different ms
unfolding different
different_within [] ms f = omega arith
different_within (n ∷ ns) ms f = go (stands n ns) refl (different_within ns)
  where
    rest : Within ns ms
    rest k i = f k (Memᴰ.tail i)

    go : (t : Bool) → stands n ns ≡ t → ((is : List ℕ) → Within ns is → different ns ≤ different is)
        → different_step t (different ns) ≤ different ms
    go true e g = g ms rest
    go false e g = fewer n ns ms rest (f n (Memᴰ.head refl)) (not_stands n ns e) g

pub different_fewer : (n : ℕ) (ns ms : List ℕ) → Within ns ms → Memᴰ n ms → ¬ Memᴰ n ns
    → different ns < different ms
different_fewer n ns ms f m h = fewer n ns ms f m h (different_within ns)

-- the numbers below k

abbrev below : ℕ → List ℕ
below zero = []
below (suc k) = k ∷ below k

in_below : {n : ℕ} (k : ℕ) → n ∈ below k → n < k
in_below zero m = absurd (Memᴰ.not-nil m)
in_below (suc k) (Memᴰ.head e) = omega arith
in_below (suc k) (Memᴰ.tail m) = omega (arith, in_below k m)

below_in : (n k : ℕ) → n < k → n ∈ below k
below_in n zero l = absurd (omega arith)
below_in n (suc k) l = go (ℕ_discrete n k) (below_in n k)
  where
    go : Dec (n ≡ k) → (n < k → n ∈ below k) → n ∈ k ∷ below k
    go (yes e) f = Memᴰ.head e
    go (no h) f = Memᴰ.tail (f (omega arith))

below-different : (k : ℕ) → different (below k) ≡ k
unfolding different
below-different zero = refl
below-different (suc k) = go (stands k (below k)) refl (below-different k)
  where
    go : (t : Bool) → stands k (below k) ≡ t → different (below k) ≡ k
        → different_step t (different (below k)) ≡ suc k
    go true e f = absurd (omega (arith, in_below k ((stands_exact k (below k)).0 e)))
    go false e f = ap suc f

pub different_below : (k : ℕ) (ns : List ℕ) → All (λ n. n < k) ns → different ns ≤ k
different_below k ns h =
    omega (
      arith,
      below-different k,
      different_within ns (below k) (λ n m. below_in n k (all_mem (λ i. i < k) ns h m)),
    )

pub different_from : (k : ℕ) (ns : List ℕ) → ((n : ℕ) → n < k → Memᴰ n ns) → k ≤ different ns
different_from k ns f =
    omega (arith, below-different k, different_within (below k) ns (λ n m. f n (in_below k m)))

-- one more than the largest number in the list; 0 if there is none
unfoldable pub largest : List ℕ → ℕ
largest [] = zero
largest (n ∷ ns) = max (suc n) (largest ns)

pub largest_over : (ns : List ℕ) → All (λ n. n < largest ns) ns
unfolding largest
largest_over [] = tt
largest_over (n ∷ ns) = (omega arith, all_map (λ m l. omega arith) ns (largest_over ns))

pub largest_least : (k : ℕ) (ns : List ℕ) → All (λ n. n < k) ns → largest ns ≤ k
unfolding largest
largest_least k [] h = omega arith
largest_least k (n ∷ ns) h = omega (arith, largest_least k ns h.1)

-- what is below it is at most some number of the list
pub largest_at : (ns : List ℕ) (m : ℕ) → m < largest ns → (i : ℕ) × (i < length ns) × (m ≤ get_or ns i 0)
unfolding largest
largest_at [] m l = absurd (omega arith)
largest_at (n ∷ ns) m l = go (dec_le m n) (largest_at ns m)
  where
    go : Dec (m ≤ n) → (m < largest ns → (i : ℕ) × (i < length ns) × (m ≤ get_or ns i 0))
        → (i : ℕ) × (i < suc (length ns)) × (m ≤ get_or (n ∷ ns) i 0)
    go (yes h) f = (0, omega arith, h)
    go (no h) f = let (i, k, e) = f (omega arith) in (suc i, omega arith, e)
