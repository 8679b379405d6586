-- Laws of ascending lists of numbers without repetition: what is put in is there, lists with the same members are
-- equal, and a list with fewer members is shorter.
use Rattle.std.specs.Prelude.{ℕ, suc, ◌+◌, ◌≤◌, ◌<◌, ◌≡◌, refl, Bool, true, false, not, ◌⊎◌, length, T, ltb}
use Rattle.std.proofs.Common.{sym, ◌∙◌, ap, ap₂, subst, inl, inr, ltb→lt, nltb→le, arith}
use mathlib.Core.List.Memᴰ
use mathlib.Core.List.{List, [], ◌∷◌, Memᴰ}
use Rattle.theory_words.specs.All.{All, all_mem, all_map}
use Rattle.theory_words.specs.Filter.{filter, keep_if}
use Rattle.theory_words.specs.FilterLaws.{filter_all}
use Rattle.theory_conjugacy.specs.Part.{insert, insert_step}

infix 20 ◌∈◌
abbrev pub ◌∈◌ : ℕ → List ℕ → Type 0
k ∈ ks = Memᴰ k ks

abbrev pub Ascending : List ℕ → Type 0
Ascending [] = Unit {0}
Ascending (k ∷ ks) = All (λ j. k < j) ks × Ascending ks

-- two numbers and the tests whether the one or the other is smaller
pub data Placed (k j : ℕ) : Bool → Bool → Type 0 where
  below : {t : Bool} → k < j → Placed k j true t
  above : j < k → Placed k j false true
  equal : k ≡ j → Placed k j false false

pub placed : (k j : ℕ) → Placed k j (ltb k j) (ltb j k)
placed k j = go (ltb k j) refl (ltb j k) refl
  where
    at_least : (m n : ℕ) → ltb m n ≡ false → n ≤ m
    at_least m n e = nltb→le m n (subst (λ b. T (not b)) (sym e) tt)

    go : (s : Bool) → ltb k j ≡ s → (t : Bool) → ltb j k ≡ t → Placed k j s t
    go true e t f = below (ltb→lt k j (subst T (sym e) tt))
    go false e true f = above (ltb→lt j k (subst T (sym f) tt))
    go false e false f = equal (omega (arith, at_least k j e, at_least j k f))

insert_in_step : {i k j : ℕ} {js ks : List ℕ} {s t : Bool} → Placed k j s t → (i ≡ k) ⊎ (i ∈ j ∷ js)
    → (i ∈ js → i ∈ ks) → (i ≡ k → i ∈ ks) → i ∈ insert_step s t k j js ks
unfolding insert_step
insert_in_step (below l) (inl e) f g = Memᴰ.head e
insert_in_step (below l) (inr m) f g = Memᴰ.tail m
insert_in_step (above l) (inl e) f g = Memᴰ.tail (g e)
insert_in_step (above l) (inr (Memᴰ.head e)) f g = Memᴰ.head e
insert_in_step (above l) (inr (Memᴰ.tail m)) f g = Memᴰ.tail (f m)
insert_in_step (equal l) (inl e) f g = Memᴰ.head (e ∙ l)
insert_in_step (equal l) (inr m) f g = m

-- what is put in or was there is there
pub insert_in : {i k : ℕ} (ks : List ℕ) → (i ≡ k) ⊎ (i ∈ ks) → i ∈ insert k ks
unfolding insert insert_step
insert_in [] (inl e) = Memᴰ.head e
insert_in [] (inr m) = absurd (Memᴰ.not-nil m)
insert_in {k = k} (j ∷ js) d =
    insert_in_step (placed k j) d (λ m. insert_in js (inr m)) (λ e. insert_in js (inl e))

in_insert_step : {i k j : ℕ} {js ks : List ℕ} {s t : Bool} → Placed k j s t → (i ∈ ks → (i ≡ k) ⊎ (i ∈ js))
    → i ∈ insert_step s t k j js ks → (i ≡ k) ⊎ (i ∈ j ∷ js)
unfolding insert_step
in_insert_step (below l) f (Memᴰ.head e) = inl e
in_insert_step (below l) f (Memᴰ.tail m) = inr m
in_insert_step (above l) f (Memᴰ.head e) = inr (Memᴰ.head e)
in_insert_step {i} {k} {j} {js} (above l) f (Memᴰ.tail m) = go (f m)
  where
    go : (i ≡ k) ⊎ (i ∈ js) → (i ≡ k) ⊎ (i ∈ j ∷ js)
    go (inl e) = inl e
    go (inr n) = inr (Memᴰ.tail n)
in_insert_step (equal l) f m = inr m

-- and nothing else
pub in_insert : {i k : ℕ} (ks : List ℕ) → i ∈ insert k ks → (i ≡ k) ⊎ (i ∈ ks)
unfolding insert insert_step
in_insert [] (Memᴰ.head e) = inl e
in_insert [] (Memᴰ.tail m) = inr m
in_insert {i} {k} (j ∷ js) m = in_insert_step (placed k j) (λ n. in_insert js n) m

insert_above : (l k : ℕ) (ks : List ℕ) → l < k → All (λ j. l < j) ks → All (λ j. l < j) (insert k ks)
unfolding insert insert_step
insert_above l k [] h a = (h, tt)
insert_above l k (j ∷ js) h a = go (ltb k j) (ltb j k) (insert_above l k js h a.1)
  where
    go : (s t : Bool) → All (λ i. l < i) (insert k js) → All (λ i. l < i) (insert_step s t k j js (insert k js))
    go true t b = (h, a)
    go false true b = (a.0, b)
    go false false b = a

pub insert_ascending : (k : ℕ) (ks : List ℕ) → Ascending ks → Ascending (insert k ks)
unfolding insert insert_step
insert_ascending k [] a = (tt, tt)
insert_ascending k (j ∷ js) a = go (placed k j) (insert_ascending k js a.1)
  where
    go : {s t : Bool} → Placed k j s t → Ascending (insert k js) → Ascending (insert_step s t k j js (insert k js))
    go (below l) b = ((l, all_map (λ i h. omega arith) js a.0), a)
    go (above l) b = (insert_above j k js l a.0, b)
    go (equal e) b = a

-- of an ascending list the first is the smallest
pub head_least : {i k : ℕ} {ks : List ℕ} → Ascending (k ∷ ks) → i ∈ k ∷ ks → k ≤ i
head_least a (Memᴰ.head e) = omega arith
head_least {i} {k} {ks} a (Memᴰ.tail m) = let l : k < i = all_mem (λ j. k < j) ks a.0 m in omega arith

in_tail : {i k : ℕ} {ks : List ℕ} → k < i → i ∈ k ∷ ks → i ∈ ks
in_tail h (Memᴰ.head e) = absurd (omega arith)
in_tail h (Memᴰ.tail m) = m

abbrev pub Within : List ℕ → List ℕ → Type 0
Within is js = (k : ℕ) → k ∈ is → k ∈ js

within_tails : {k j : ℕ} {ks js : List ℕ} → Ascending (k ∷ ks) → j ≤ k → Within (k ∷ ks) (j ∷ js) → Within ks js
within_tails {k} {j} {ks} a h f i m =
    let l : k < i = all_mem (λ n. k < n) ks a.0 m in
    in_tail (omega arith) (f i (Memᴰ.tail m))

pub ascending_equal : (is js : List ℕ) → Ascending is → Ascending js → Within is js → Within js is → is ≡ js
ascending_equal [] [] a b f g = refl
ascending_equal [] (j ∷ js) a b f g = absurd (Memᴰ.not-nil (g j (Memᴰ.head refl)))
ascending_equal (i ∷ is) [] a b f g = absurd (Memᴰ.not-nil (f i (Memᴰ.head refl)))
ascending_equal (i ∷ is) (j ∷ js) a b f g =
    let l : j ≤ i = head_least b (f i (Memᴰ.head refl)) in
    let m : i ≤ j = head_least a (g j (Memᴰ.head refl)) in
    let e : i ≡ j = omega arith in
    ap₂ (λ (k : ℕ) (ks : List ℕ). k ∷ ks) e
    (ascending_equal is js a.1 b.1 (within_tails a l f) (within_tails b m g))

-- what is left of a list without one of its members, as far as it is larger
in_without : {i : ℕ} (js : List ℕ) → i ∈ js
    → (ks : List ℕ) × (length js ≡ suc (length ks)) × ((k : ℕ) → i < k → k ∈ js → k ∈ ks)
in_without (j ∷ js) (Memᴰ.head e) = (js, refl, (λ k l m. in_tail (omega arith) m))
in_without {i} (j ∷ js) (Memᴰ.tail m) =
    let (ks, e, f) = in_without js m in
    (j ∷ ks, ap suc e, (λ k l n. go k ks (f k l) n))
  where
    go : (k : ℕ) (ks : List ℕ) → (k ∈ js → k ∈ ks) → k ∈ j ∷ js → k ∈ j ∷ ks
    go k ks f (Memᴰ.head e) = Memᴰ.head e
    go k ks f (Memᴰ.tail n) = Memᴰ.tail (f n)
in_without {i = i} [] x' = elim x' [ ]

pub within_length : (is js : List ℕ) → Ascending is → Within is js → length is ≤ length js
within_length [] js a f = omega arith
within_length (i ∷ is) js a f =
    let (ks, e, g) = in_without js (f i (Memᴰ.head refl)) in
    let h = within_length is ks a.1
    (λ k m. g k (all_mem (λ j. i < j) is a.0 m) (f k (Memᴰ.tail m))) in
    omega arith

-- what was not there makes the list longer
pub insert-length : (k : ℕ) (ks : List ℕ) → ¬ (k ∈ ks) → length (insert k ks) ≡ suc (length ks)
unfolding insert insert_step
insert-length k [] n = refl
insert-length k (j ∷ js) n = go (placed k j) (insert-length k js (λ m. n (Memᴰ.tail m)))
  where
    go : {s t : Bool} → Placed k j s t → length (insert k js) ≡ suc (length js)
        → length (insert_step s t k j js (insert k js)) ≡ suc (suc (length js))
    go (below l) h = refl
    go (above l) h = ap suc h
    go (equal e) h = absurd (n (Memᴰ.head e))

pub within_shorter : (is js : List ℕ) → Ascending is → Within is js → (k : ℕ) → k ∈ js → ¬ (k ∈ is)
    → length is < length js
within_shorter is js a f k m n =
    let g : Within (insert k is) js = (λ i o. go i (in_insert is o)) in
    omega (arith, insert-length k is n, within_length (insert k is) js (insert_ascending k is a) g)
  where
    go : (i : ℕ) → (i ≡ k) ⊎ (i ∈ is) → i ∈ js
    go i (inl e) = Memᴰ.cast e m
    go i (inr o) = f i o

-- an ascending list of numbers from low on and below high
pub ascending_length : (low high : ℕ) (ks : List ℕ) → Ascending ks → low ≤ high → All (λ k. low ≤ k) ks
    → All (λ k. k < high) ks → low + length ks ≤ high
ascending_length low high [] a h l u = omega arith
ascending_length low high (k ∷ ks) a h l u =
    let i = ascending_length (suc k) high ks a.1 u.0 a.0 u.1 in
    let j : low ≤ k = l.0 in
    omega arith

-- what passes a test
pub filter_ascending : (f : ℕ → Bool) (ks : List ℕ) → Ascending ks → Ascending (filter f ks)
unfolding filter keep_if
filter_ascending f [] a = tt
filter_ascending f (j ∷ js) a = go (f j) (filter_ascending f js a.1) (filter_all f (λ i. j < i) js a.0)
  where
    go : (s : Bool) → Ascending (filter f js) → All (λ i. j < i) (filter f js) → Ascending (keep_if s j (filter f js))
    go true b c = (c, b)
    go false b c = b
