-- A property of every element of a list, or of every letter of a word.
use Rattle.std.specs.Prelude.{ℕ, zero, suc, ◌<◌, length, get_or}
use mathlib.Core.List.{List, [], ◌∷◌, ◌++◌, reverse, reverse_aux, Memᴰ}
use Rattle.std.proofs.Common.{sym, subst, arith}
use Rattle.theory_words.specs.Alphabet.{Alphabet, Word}
use Rattle.theory_words.specs.Trace as Trace
use Rattle.theory_words.specs.Trace.{Pick, here, there, done, cons, swap, next}

module _ {A : Type 0} (P : A → Type 0) where
  abbrev pub All : List A → Type 0
  All [] = Unit {0}
  All (a ∷ w) = P a × All w

  pub all_mem : (w : List A) {a : A} → All w → Memᴰ a w → P a
  all_mem (b ∷ w) h (Memᴰ.head e) = subst P (sym e) h.0
  all_mem (b ∷ w) h (Memᴰ.tail m) = all_mem w h.1 m
  all_mem [] {a = a} h x'' = elim x'' [ ]

  pub all_by : (w : List A) → ((a : A) → Memᴰ a w → P a) → All w
  all_by [] f = tt
  all_by (a ∷ w) f = (f a (Memᴰ.head (λ i. a)), all_by w (λ b m. f b (Memᴰ.tail m)))

  pub all_at : (w : List A) (i : ℕ) (d : A) → All w → i < length w → P (get_or w i d)
  all_at [] i d h l = absurd (omega arith)
  all_at (a ∷ w) zero d h l = h.0
  all_at (a ∷ w) (suc i) d h l = all_at w i d h.1 (omega arith)

  pub all_from : (w : List A) (d : A) → ((i : ℕ) → i < length w → P (get_or w i d)) → All w
  all_from [] d f = tt
  all_from (a ∷ w) d f = (f 0 (omega arith), all_from w d (λ i l. f (suc i) (omega arith)))

  pub all_append : (u v : List A) → All u → All v → All (u ++ v)
  all_append [] v h k = k
  all_append (a ∷ u) v h k = (h.0, all_append u v h.1 k)

  pub all_left : (u v : List A) → All (u ++ v) → All u
  all_left [] v h = tt
  all_left (a ∷ u) v h = (h.0, all_left u v h.1)

  pub all_right : (u v : List A) → All (u ++ v) → All v
  all_right [] v h = h
  all_right (a ∷ u) v h = all_right u v h.1

  pub all_onto : (u v : List A) → All u → All v → All (reverse_aux u v)
  all_onto [] v h k = k
  all_onto (a ∷ u) v h k = all_onto u (a ∷ v) h.1 (h.0, k)

  pub all_reverse : (w : List A) → All w → All (reverse w)
  all_reverse w h = all_onto w [] h tt

pub all_map : {A : Type 0} {P Q : A → Type 0} → ((a : A) → P a → Q a) → (w : List A) → All P w → All Q w
all_map f [] h = tt
all_map f (a ∷ w) h = (f a h.0, all_map f w h.1)

module _ (Γ : Alphabet) (P : Γ.Letter → Type 0) where
  pub all_pick : {c : Γ.Letter} {w r : Word Γ} → Pick Γ c w r → All P w → P c × All P r
  all_pick here h = h
  all_pick (there d p) h = let (k, l) = all_pick p h.1 in (k, (h.0, l))

  pub all_along : {v w : Word Γ} → Trace.◌~◌ Γ v w → All P v → All P w
  all_along done h = h
  all_along (cons e) h = (h.0, all_along e h.1)
  all_along (swap d) h = (h.1.0, (h.0, h.1.1))
  all_along (next e f) h = all_along f (all_along e h)
