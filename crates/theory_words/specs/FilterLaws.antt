-- Laws of filters: which elements are left, products, undoing and swaps.
use Rattle.std.specs.Prelude.{suc, ◌≤◌, ◌≡◌, Bool, ◌⊎◌, length}
use Rattle.std.proofs.Math.Path.{refl, ap}
use Rattle.std.proofs.Common.{sym, ◌∙◌}
use Rattle.std.proofs.Math.Bool.{true, false}
use Rattle.std.proofs.Math.Logic.{inl, inr}
use mathlib.Core.List.{List, [], ◌∷◌, ◌++◌, reverse, map-id, Memᴰ}
use native.Mathlib.Omega.{arith}
use Rattle.theory_words.specs.All.{All, all_mem, all_by}
use Rattle.theory_words.specs.Alphabet.{Alphabet, Word, dep}
use Rattle.theory_words.specs.Trace as Trace
use Rattle.theory_words.specs.Trace.{done, cons, swap, next}
use Rattle.theory_words.specs.TraceLaws.{~_refl}
use Rattle.theory_words.specs.Group.{undo_by}
use Rattle.theory_words.specs.Filter.{keep_if, filter}

module _ {A : Type 0} where
  pub keep_if_cases : {c : A} (t : Bool) (a : A) (x : List A) → Memᴰ c (keep_if t a x)
      → ((c ≡ a) × (t ≡ true)) ⊎ Memᴰ c x
  unfolding keep_if
  keep_if_cases true a x (Memᴰ.head e) = inl (e, refl)
  keep_if_cases true a x (Memᴰ.tail m) = inr m
  keep_if_cases false a x m = inr m

  pub keep_if_tail : {c : A} (t : Bool) (a : A) (x : List A) → Memᴰ c x → Memᴰ c (keep_if t a x)
  unfolding keep_if
  keep_if_tail true a x m = Memᴰ.tail m
  keep_if_tail false a x m = m

  pub keep_if_head : {c : A} (a : A) (x : List A) {t : Bool} → c ≡ a → t ≡ true → Memᴰ c (keep_if t a x)
  unfolding keep_if
  keep_if_head a x e h = rw h (Memᴰ.head e)

  pub keep_if_all : (P : A → Type 0) (t : Bool) (a : A) (x : List A) → (t ≡ true → P a) → All P x
      → All P (keep_if t a x)
  unfolding keep_if
  keep_if_all P true a x p h = (p refl, h)
  keep_if_all P false a x p h = h

  keep_if-append : (t : Bool) (a : A) (x y : List A) → keep_if t a (x ++ y) ≡ keep_if t a x ++ y
  unfolding keep_if
  keep_if-append true a x y = refl
  keep_if-append false a x y = refl

  keep_if-length : (t : Bool) (a : A) (x : List A) → length (keep_if t a x) ≤ suc (length x)
  unfolding keep_if
  keep_if-length true a x = omega arith
  keep_if-length false a x = omega arith

  keep_if_undo : (g : A → A) (t : Bool) (a : A) (u v : List A)
      → undo_by g u (keep_if t (g a) v) ≡ undo_by g (keep_if t a u) v
  unfolding keep_if
  keep_if_undo g true a u v = refl
  keep_if_undo g false a u v = refl

  module _ (f : A → Bool) where
    pub filter_kept : (a : A) (w : List A) → f a ≡ true → filter f (a ∷ w) ≡ a ∷ filter f w
    unfolding filter keep_if
    filter_kept a w e = rw e

    pub filter_left : (a : A) (w : List A) → f a ≡ false → filter f (a ∷ w) ≡ filter f w
    unfolding filter keep_if
    filter_left a w e = rw e

    pub filter-append : (v w : List A) → filter f (v ++ w) ≡ filter f v ++ filter f w
    unfolding filter
    filter-append [] w = refl
    filter-append (a ∷ v) w =
        ap (keep_if (f a) a) (filter-append v w) ∙ keep_if-append (f a) a (filter f v) (filter f w)

    pub filter-length : (w : List A) → length (filter f w) ≤ length w
    unfolding filter
    filter-length [] = omega arith
    filter-length (a ∷ w) = omega (arith, keep_if-length (f a) a (filter f w), filter-length w)

    pub filter_undo : (g : A → A) → ((a : A) → f (g a) ≡ f a) → (u v : List A)
        → filter f (undo_by g u v) ≡ undo_by g (filter f u) (filter f v)
    unfolding filter
    filter_undo g h [] v = refl
    filter_undo g h (a ∷ u) v =
        filter_undo g h u (g a ∷ v)
        ∙ rw (h a) (keep_if_undo g (f a) a (filter f u) (filter f v))

    pub filter-reverse : (w : List A) → filter f (reverse w) ≡ reverse (filter f w)
    unfolding filter
    filter-reverse w =
        ap (λ (u : List A). filter f (reverse u)) (sym (map-id w)) ∙ filter_undo (λ a. a) (λ a. refl) w []
        ∙ ap reverse (map-id (filter f w))

    -- what is left passes, and has what every element had
    pub filter_passes : (w : List A) → All (λ a. f a ≡ true) (filter f w)
    unfolding filter
    filter_passes [] = tt
    filter_passes (a ∷ w) = keep_if_all (λ b. f b ≡ true) (f a) a (filter f w) (λ e. e) (filter_passes w)

    pub filter_all : (P : A → Type 0) (w : List A) → All P w → All P (filter f w)
    unfolding filter
    filter_all P [] h = tt
    filter_all P (a ∷ w) h = keep_if_all P (f a) a (filter f w) (λ e. h.0) (filter_all P w h.1)

    -- where all pass, all are left
    pub filter_whole : (w : List A) → All (λ a. f a ≡ true) w → filter f w ≡ w
    unfolding filter
    filter_whole [] h = refl
    filter_whole (a ∷ w) h = filter_kept a w h.0 ∙ ap (λ (x : List A). a ∷ x) (filter_whole w h.1)

    pub mem_filter : {c : A} (w : List A) → Memᴰ c w → f c ≡ true → Memᴰ c (filter f w)
    unfolding filter
    mem_filter (a ∷ w) (Memᴰ.head e) t = keep_if_head a (filter f w) e (ap f (sym e) ∙ t)
    mem_filter (a ∷ w) (Memᴰ.tail m) t = keep_if_tail (f a) a (filter f w) (mem_filter w m t)
    mem_filter {c = c} [] x'' t = elim x'' [ ]

    pub filter_mem : {c : A} (w : List A) → Memᴰ c (filter f w) → Memᴰ c w × (f c ≡ true)
    filter_mem w m =
        let h = filter_all (λ a. Memᴰ a w) w (all_by (λ a. Memᴰ a w) w (λ a n. n)) in
        (all_mem (λ a. Memᴰ a w) (filter f w) h m, all_mem (λ a. f a ≡ true) (filter f w) (filter_passes w) m)

module _ (Γ : Alphabet) where
  open Γ use {Letter}

  infix 20 ◌~◌
  abbrev ◌~◌ : Word Γ → Word Γ → Type 0
  ◌~◌ = Trace.◌~◌ Γ

  keep_if-~ : (t : Bool) (a : Letter) {v w : Word Γ} → v ~ w → keep_if t a v ~ keep_if t a w
  unfolding keep_if
  keep_if-~ true a e = cons e
  keep_if-~ false a e = e

  keep_if_swap : (t s : Bool) (a b : Letter) (w : Word Γ) → dep Γ a b ≡ false
      → keep_if t a (keep_if s b w) ~ keep_if s b (keep_if t a w)
  unfolding keep_if
  keep_if_swap true true a b w d = swap d
  keep_if_swap true false a b w d = ~_refl Γ _
  keep_if_swap false true a b w d = ~_refl Γ _
  keep_if_swap false false a b w d = ~_refl Γ _

  pub filter-~ : (f : Letter → Bool) {v w : Word Γ} → v ~ w → filter f v ~ filter f w
  unfolding filter
  filter-~ f done = done
  filter-~ f (cons {a = a} e) = keep_if-~ (f a) a (filter-~ f e)
  filter-~ f (swap {a = a} {b = b} {w = w} d) = keep_if_swap (f a) (f b) a b (filter f w) d
  filter-~ f (next d e) = next (filter-~ f d) (filter-~ f e)
