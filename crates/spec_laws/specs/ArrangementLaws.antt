-- Laws of arrangements: places stay distinct, so that of two places one alone is before the other. Letters with their
-- places are an alphabet of their own, over which an arrangement is a word up to swaps.
use Prim.Native.Nat.{ℕ, suc, ◌+◌, ◌≤◌, ◌<◌}
use Rattle.std.proofs.Common.{le_refl, arith, sym, ◌∙◌, ap₂, inl, inr, length-drop, take-append-drop, length-take-le, drop-cons}
use Rattle.std.proofs.Math.Decide.{ℕ_discrete}
use Rattle.std.specs.Prelude.{◌≡◌, refl, ◌⊎◌, length, get_or, take}
use Rattle.std.proofs.Math.Path.{ap}
use mathlib.Core.List.Memᴰ
use mathlib.Core.List.{List, [], ◌∷◌, ◌++◌, Memᴰ}
use Rattle.std.proofs.Math.ListN.{drop}
use Rattle.std.proofs.lemmas.List.{drop-append-le}
use Rattle.theory_words.specs.All.{All, all_map, all_along}
use Rattle.theory_words.specs.Alphabet.{Alphabet}
use Rattle.theory_words.specs.Trace as Trace
use Rattle.theory_words.specs.Trace.{done, cons, swap, next}
use Rattle.theory_words.specs.TraceLaws.{~_refl}
use Rattle.spec.specs.Conflict.{conflict}
use Rattle.spec.specs.AlphabetLaws.{conflict_refl, conflict_sym, undone-undone, command_undone}
use Rattle.spec.specs.Byte.{command_of, undone}
use Rattle.spec.specs.Pairs.{Placed, placed, places_of}
use Rattle.spec.specs.Precedence.{placed_from, Rearranged, same, front, behind, also, Before, now, later, StaysBefore}

-- one place stands behind another

before_last : {i j : ℕ} {ns : List ℕ} → Before i j ns → Memᴰ j ns
before_last (now m) = Memᴰ.tail m
before_last (later b) = Memᴰ.tail (before_last b)

before_cases : {i j n : ℕ} {ns : List ℕ} → Before i j (n ∷ ns) → ((i ≡ n) × Memᴰ j ns) ⊎ Before i j ns
before_cases (now m) = inl (refl, m)
before_cases (later b) = inr b

pub before_behind : {i j : ℕ} (p t : List Placed) → Before i j (places_of t) → Before i j (places_of (p ++ t))
before_behind [] t b = b
before_behind (x ∷ p) t b = later (before_behind p t b)

-- i is no place of t
abbrev Fresh : ℕ → List Placed → Type 0
Fresh i t = All (λ x. ¬ (i ≡ x.place)) t

fresh_not : {i : ℕ} (t : List Placed) → Fresh i t → ¬ Memᴰ i (places_of t)
fresh_not (x ∷ t) h (Memᴰ.head e) = h.0 e
fresh_not (x ∷ t) h (Memᴰ.tail m) = fresh_not t h.1 m
fresh_not {i = i} [] h x'' = elim x'' [ ]

-- no two letters of t have one place
abbrev pub Distinct : List Placed → Type 0
Distinct [] = Unit {0}
Distinct (x ∷ t) = Fresh x.place t × Distinct t

pub before_once : {i j : ℕ} (t : List Placed) → Distinct t → Before i j (places_of t) → ¬ Before j i (places_of t)
before_once [] h a b = elim a [ ]
before_once {i} {j} (x ∷ t) h a b = go (before_cases a) (before_cases b) (before_once t h.1)
  where
    gone : {k : ℕ} → k ≡ x.place → ¬ Memᴰ k (places_of t)
    gone e m = fresh_not t h.0 (Memᴰ.cast (sym e) m)

    go : ((i ≡ x.place) × Memᴰ j (places_of t)) ⊎ Before i j (places_of t)
        → ((j ≡ x.place) × Memᴰ i (places_of t)) ⊎ Before j i (places_of t)
        → (Before i j (places_of t) → ¬ Before j i (places_of t)) → ⊥
    go (inl (e, m)) (inl (f, n)) ih = gone e n
    go (inl (e, m)) (inr q) ih = gone e (before_last q)
    go (inr p) (inl (f, n)) ih = gone f (before_last p)
    go (inr p) (inr q) ih = ih p q

-- the places of z count upwards

places_from : (i m : ℕ) (z : List ℕ) → m ≤ i → All (λ x. m ≤ x.place) (placed_from i z)
unfolding placed_from
places_from i m [] h = tt
places_from i m (b ∷ z) h = (h, places_from (suc i) m z (omega arith))

pub places_distinct : (i : ℕ) (z : List ℕ) → Distinct (placed_from i z)
unfolding placed_from
places_distinct i [] = tt
places_distinct i (b ∷ z) = (
  all_map (λ x h. omega arith) (placed_from (suc i) z) (places_from (suc i) (suc i) z (le_refl (suc i))),
  places_distinct (suc i) z,
)

mem_within : {j : ℕ} (i : ℕ) (z : List ℕ) → Memᴰ j (places_of (placed_from i z)) → (i ≤ j) × (j < i + length z)
unfolding placed_from
mem_within i (b ∷ z) (Memᴰ.head e) = omega arith
mem_within i (b ∷ z) (Memᴰ.tail m) = let (l, h) = mem_within (suc i) z m in omega arith
mem_within {j = j} i [] x' = elim x' [ ]

before_within : {i j : ℕ} (k : ℕ) (z : List ℕ) → Before i j (places_of (placed_from k z)) → (i < j) × (j < k + length z)
unfolding placed_from
before_within k (b ∷ z) (now m) = let (l, h) = mem_within (suc k) z m in omega arith
before_within k (b ∷ z) (later s) = let (l, h) = before_within (suc k) z s in omega arith
before_within {i = i} {j = j} k [] x' = elim x' [ ]

pub stays_within : (c z : List ℕ) {i j : ℕ} → StaysBefore c z i j → (i < j) × (j < length z)
stays_within c z s = let (l, h) = before_within 0 z (s (placed_from 0 z) same) in omega arith

-- z around the place j

placed_append : (i : ℕ) (u v : List ℕ) → placed_from i (u ++ v) ≡ placed_from i u ++ placed_from (i + length u) v
unfolding placed_from
placed_append i [] v = ap (λ n. placed_from n v) (omega arith)
placed_append i (b ∷ u) v =
    ap (λ (t : List Placed). placed b i ∷ t)
    (placed_append (suc i) u v ∙ ap (λ n. placed_from (suc i) u ++ placed_from n v) (omega arith))

module _ (z : List ℕ) where
  abbrev pub letter : ℕ → Placed
  letter j = placed (get_or z j 0) j

  -- the letters from place k on, and those before place j
  abbrev pub rest : ℕ → List Placed
  rest k = placed_from k (drop k z)

  abbrev pub between : ℕ → ℕ → List Placed
  between k j = placed_from k (drop k (take j z))

  pub rest_split : (k j : ℕ) → k ≤ j → j < length z → rest k ≡ between k j ++ letter j ∷ rest (suc j)
  unfolding placed_from
  rest_split k j h l =
      ap (placed_from k) word ∙ placed_append k u (get_or z j 0 ∷ drop (suc j) z)
      ∙ ap (λ n. placed_from k u ++ placed_from n (get_or z j 0 ∷ drop (suc j) z)) place
    where
      u : List ℕ
      u = drop k (take j z)

      long : length (take j z) ≡ j
      long = length-take-le j z (omega arith)

      word : drop k z ≡ u ++ get_or z j 0 ∷ drop (suc j) z
      word =
          ap (drop k) (sym (take-append-drop j z)) ∙ drop-append-le k (take j z) (drop j z) (omega (arith, long))
          ∙ ap (λ w. u ++ w) (drop-cons z j 0 l)

      place : k + length u ≡ j
      place = omega (arith, long, length-drop k (take j z))

  -- a letter and what is behind it
  pub rest_head : (k : ℕ) {b : ℕ} {w : List ℕ} → drop k z ≡ b ∷ w
      → (k < length z) × (get_or z k 0 ≡ b) × (drop (suc k) z ≡ w)
  rest_head k {b} {w} e =
      let l : k < length z = omega (arith, length-drop k z, ap length e) in
      let s = sym (drop-cons z k 0 l) ∙ e in
      (l, (cc), (cc))

-- arrangements as words over letters with places

pub placed_discrete : Discrete Placed
placed_discrete x y = go (ℕ_discrete x.byte y.byte) (ℕ_discrete x.place y.place)
  where
    go : Dec (x.byte ≡ y.byte) → Dec (x.place ≡ y.place) → Dec (x ≡ y)
    go (yes e) (yes f) = yes (ap₂ placed e f)
    go (yes e) (no n) = no (λ p. n (ap (λ w. w.place) p))
    go (no n) (yes f) = no (λ p. n (ap (λ w. w.byte) p))
    go (no n) (no m) = no (λ p. n (ap (λ w. w.byte) p))

module _ (c : List ℕ) where
  -- what a letter conflicts with does not depend on its place
  abbrev pub placed_alphabet : Alphabet
  placed_alphabet = record {
    Letter = Placed;
    same = placed_discrete;
    inv = λ x. placed (undone x.byte) x.place;
    cmd = λ x. command_of x.byte;
    conf = conflict c;
    inv-inv = λ x. ap (λ b. placed b x.place) (undone-undone x.byte);
    cmd-inv = λ x. command_undone x.byte;
    conf_refl = conflict_refl c;
    conf_sym = conflict_sym c;
  }

  infix 20 ◌~◌
  abbrev ◌~◌ : List Placed → List Placed → Type 0
  ◌~◌ = Trace.◌~◌ placed_alphabet

  pub rearranged_~ : {t u : List Placed} → Rearranged c t u → t ~ u
  rearranged_~ (same {t = t}) = ~_refl placed_alphabet t
  rearranged_~ (front d) = swap d
  rearranged_~ (behind r) = cons (rearranged_~ r)
  rearranged_~ (also r s) = next (rearranged_~ r) (rearranged_~ s)

  pub ~_rearranged : {t u : List Placed} → t ~ u → Rearranged c t u
  ~_rearranged done = same
  ~_rearranged (cons e) = behind (~_rearranged e)
  ~_rearranged (swap d) = front d
  ~_rearranged (next e f) = also (~_rearranged e) (~_rearranged f)

  pub distinct_along : {t u : List Placed} → t ~ u → Distinct t → Distinct u
  distinct_along done h = h
  distinct_along (cons {a = x} e) h =
      (all_along placed_alphabet (λ y. ¬ (x.place ≡ y.place)) e h.0, distinct_along e h.1)
  distinct_along (swap d) h = ((λ e. h.0.0 (sym e), h.1.0), (h.0.1, h.1.1))
  distinct_along (next e f) h = distinct_along f (distinct_along e h)
