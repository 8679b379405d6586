-- A tight numbering (theory_schedules, Levels) has the fewest different numbers: every number up to its largest.
use Rattle.std.specs.Prelude.{ℕ, zero, suc, ◌≤◌, ◌<◌, ◌≡◌, ◌↔◌, length, get_or, ltb}
use Rattle.std.proofs.Common.{arith, inl, inr, lt-ltb, ltb-true}
use Rattle.std.proofs.Math.Decide.{ℕ_discrete}
use mathlib.Core.List.Memᴰ
use mathlib.Core.List.{List, Memᴰ}
use Rattle.theory_words.specs.All.{all_at, all_by, all_from, all_mem}
use Rattle.theory_words.specs.Filter.{filter}
use Rattle.theory_words.specs.FilterLaws.{filter_mem, mem_filter}
use Rattle.theory_schedules.specs.Levels.{TightAt, Rising, Tight}
use Rattle.theory_schedules.specs.LevelsLaws.{tight_least}
use Rattle.spec.specs.Slots.{different}
use Rattle.spec_laws.specs.DifferentLaws.{different_fewer, different_below, different_from}
use Rattle.spec_laws.specs.DifferentLaws.{largest, largest_over, largest_least, largest_at}

mem_at : (ns : List ℕ) (i : ℕ) → i < length ns → Memᴰ (get_or ns i 0) ns
mem_at ns i l = all_at (λ n. Memᴰ n ns) ns i 0 (all_by (λ n. Memᴰ n ns) ns (λ n m. m)) l

-- how many different numbers of a list are below k

abbrev under : ℕ → List ℕ → List ℕ
under k = filter (λ m. ltb m k)

under_in : (k : ℕ) (ms : List ℕ) {m : ℕ} → Memᴰ m (under k ms) → Memᴰ m ms × (m < k)
under_in k ms {m} s = let (i, e) = filter_mem (λ j. ltb j k) ms s in (i, ltb-true m k e)

abbrev rank : List ℕ → ℕ → ℕ
rank ms k = different (under k ms)

rank_fewer : (k : ℕ) (ms is : List ℕ) → ((m : ℕ) → Memᴰ m (under k ms) → Memᴰ m is) → Memᴰ k is
    → rank ms k < different is
rank_fewer k ms is f i = different_fewer k (under k ms) is f i (λ s. omega (arith, (under_in k ms s).1))

module _ (ms : List ℕ) (i : ℕ) (l : i < length ms) where
  rank_under : rank ms (get_or ms i 0) < different ms
  rank_under = rank_fewer (get_or ms i 0) ms ms (λ m s. (under_in (get_or ms i 0) ms s).0) (mem_at ms i l)

  rank_rises : (k : ℕ) → get_or ms i 0 < k → rank ms (get_or ms i 0) < rank ms k
  rank_rises k h = rank_fewer (get_or ms i 0) ms (under k ms) kept (in_under (mem_at ms i l) h)
    where
      in_under : {m : ℕ} → Memᴰ m ms → m < k → Memᴰ m (under k ms)
      in_under {m} s b = mem_filter (λ j. ltb j k) ms s (lt-ltb m k b)

      kept : (m : ℕ) → Memᴰ m (under (get_or ms i 0) ms) → Memᴰ m (under k ms)
      kept m s = let (p, b) = under_in (get_or ms i 0) ms s in in_under p (omega arith)

module _ (D : ℕ → ℕ → Type 0) (n : ℕ) (ns : List ℕ) (p : length ns ≡ n) (t : Tight D n (λ i. get_or ns i 0)) where
  pub tight_fewest : (ms : List ℕ) → length ms ≡ n → Rising D n (λ i. get_or ms i 0) → different ns ≤ different ms
  tight_fewest ms q r = different_below (different ms) ns (all_from (λ m. m < different ms) ns 0 small)
    where
      ranked : Rising D n (λ i. rank ms (get_or ms i 0))
      ranked i j l h d = rank_rises ms i (omega arith) (get_or ms j 0) (r i j l h d)

      small : (i : ℕ) → i < length ns → get_or ns i 0 < different ms
      small i l = omega (arith, tight_least D n t ranked i (omega arith), rank_under ms i (omega arith))

  -- with a number every smaller one stands in the list
  down_before : (b j : ℕ) → j < b → j < n → (m : ℕ) → m ≤ get_or ns j 0 → Memᴰ m ns
  down_before zero j l h m k = absurd (omega arith)
  down_before (suc b) j l h m k = go (down_before b) (ℕ_discrete m (get_or ns j 0)) (t j h)
    where
      go : ((i : ℕ) → i < b → i < n → (o : ℕ) → o ≤ get_or ns i 0 → Memᴰ o ns) → Dec (m ≡ get_or ns j 0)
          → TightAt D (λ i. get_or ns i 0) j → Memᴰ m ns
      go f (yes e) x = Memᴰ.cast e (mem_at ns j (omega arith))
      go f (no o) (inl e) = absurd (omega arith)
      go f (no o) (inr x) = let (i, s, d, e) = x in f i (omega arith) (omega arith) m (omega arith)

  down : (i : ℕ) → i < length ns → (m : ℕ) → m ≤ get_or ns i 0 → Memᴰ m ns
  down i l = down_before n i (omega arith) (omega arith)

  pub tight_largest : different ns ≡ largest ns
  tight_largest =
      omega (
        arith,
        different_below (largest ns) ns (largest_over ns),
        largest_least (different ns) ns (all_from (λ m. m < different ns) ns 0 held),
      )
    where
      held : (i : ℕ) → i < length ns → get_or ns i 0 < different ns
      held i l = different_from (suc (get_or ns i 0)) ns (λ m h. down i l m (omega arith))

  -- every number below the largest is there, and it
  pub tight_whole : (m : ℕ) → (m < different ns) ↔ Memᴰ m ns
  tight_whole m = (
    λ l. let (i, h, k) = largest_at ns m (omega (arith, tight_largest)) in down i h m k,
    λ s. omega (arith, tight_largest, all_mem (λ i. i < largest ns) ns (largest_over ns) s),
  )
