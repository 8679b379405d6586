-- Laws of swaps and of first letters.
use Rattle.std.specs.Prelude.{◌≡◌, refl, true, false, length, suc}
use Rattle.std.proofs.Common.{sym, ◌∙◌, ap, subst, true≢false}
use mathlib.Core.List.{[], ◌∷◌, ◌++◌, reverse, reverse_aux}
use Rattle.theory_words.specs.Alphabet.{Alphabet, Word, dep}
use Rattle.theory_words.specs.Trace as Trace
use Rattle.theory_words.specs.Trace.{Pick, here, there, First, done, cons, swap, next}

module _ (Γ : Alphabet) where
  open Γ use {Letter, inv, cmd}

  infix 20 ◌~◌
  abbrev ◌~◌ : Word Γ → Word Γ → Type 0
  ◌~◌ = Trace.◌~◌ Γ

  pub dep_sym : {a b : Letter} → dep Γ a b ≡ false → dep Γ b a ≡ false
  dep_sym {a} {b} d = Γ.conf_sym (cmd b) (cmd a) ∙ d

  -- letters of one command are dependent
  pub dep-cmd : {c d : Letter} → cmd c ≡ cmd d → dep Γ c d ≡ true
  dep-cmd {c} {d} e = ap (λ k. Γ.conf (cmd c) k) (sym e) ∙ Γ.conf_refl (cmd c)

  pub dep_not : {c d : Letter} → dep Γ c d ≡ false → ¬ (c ≡ d)
  dep_not {c} {d} f e = true≢false (sym (dep-cmd {c = c} {d = d} (ap cmd e)) ∙ f)

  pub ~_refl : (w : Word Γ) → w ~ w
  ~_refl [] = done
  ~_refl (a ∷ w) = cons (~_refl w)

  pub ~_sym : {v w : Word Γ} → v ~ w → w ~ v
  ~_sym done = done
  ~_sym (cons e) = cons (~_sym e)
  ~_sym (swap {a = a} {b = b} d) = swap (dep_sym {a = a} {b = b} d)
  ~_sym (next e f) = next (~_sym f) (~_sym e)

  pub ~-length : {v w : Word Γ} → v ~ w → length v ≡ length w
  ~-length done = refl
  ~-length (cons e) = ap suc (~-length e)
  ~-length (swap d) = refl
  ~-length (next e f) = ~-length e ∙ ~-length f

  pub ~_before : (u : Word Γ) {v w : Word Γ} → v ~ w → (u ++ v) ~ (u ++ w)
  ~_before [] e = e
  ~_before (a ∷ u) e = cons (~_before u e)

  pub ~_after : {v w : Word Γ} → v ~ w → (u : Word Γ) → (v ++ u) ~ (w ++ u)
  ~_after done u = ~_refl u
  ~_after (cons e) u = cons (~_after e u)
  ~_after (swap d) u = swap d
  ~_after (next e f) u = next (~_after e u) (~_after f u)

  -- reversal onto a word
  pub ~_reverse_onto : (v : Word Γ) {x y : Word Γ} → x ~ y → reverse_aux v x ~ reverse_aux v y
  ~_reverse_onto [] e = e
  ~_reverse_onto (a ∷ v) e = ~_reverse_onto v (cons e)

  pub ~_reverse_aux : {v w : Word Γ} → v ~ w → (x : Word Γ) → reverse_aux v x ~ reverse_aux w x
  ~_reverse_aux done x = ~_refl x
  ~_reverse_aux (cons {a = a} e) x = ~_reverse_aux e (a ∷ x)
  ~_reverse_aux (swap {a = a} {b = b} {w = w} d) x = ~_reverse_onto w (swap (dep_sym {a = a} {b = b} d))
  ~_reverse_aux (next e f) x = next (~_reverse_aux e x) (~_reverse_aux f x)

  pub ~-reverse : {v w : Word Γ} → v ~ w → reverse v ~ reverse w
  ~-reverse e = ~_reverse_aux e []

  pub pick_front : {c : Letter} {w r : Word Γ} → Pick Γ c w r → w ~ (c ∷ r)
  pick_front (here {w = w}) = ~_refl _
  pick_front {c} (there {b = b} d p) = next (cons (pick_front p)) (swap (dep_sym {a = c} {b = b} d))

  pub pick_along : {c : Letter} {w v r : Word Γ} → w ~ v → Pick Γ c w r → (s : Word Γ) × Pick Γ c v s × (r ~ s)
  pick_along (cons {w = w} e) here = (w, here, e)
  pick_along (cons {a = a} e) (there d p) = let (s, q, f) = pick_along e p in (a ∷ s, there d q, cons f)
  pick_along (swap {a = a} {b = b} {w = w} d) here = (b ∷ w, there d here, ~_refl _)
  pick_along (swap {a = a} {b = b} {w = w} d) (there k here) = (a ∷ w, here, ~_refl _)
  pick_along (swap {a = a} {b = b} {w = w} d) (there k (there {r = r} l p)) = (b ∷ a ∷ r, there l (there k p), swap d)
  pick_along (next e f) p =
      let (s, q, g) = pick_along e p in
      let (t, o, h) = pick_along f q in
      (t, o, next g h)
  pick_along {c = c} {r = r} done p = elim p [ ]

  pub pick_same : {c d : Letter} {w r s : Word Γ} → c ≡ d → Pick Γ c w r → Pick Γ d w s → r ≡ s
  pick_same e here here = refl
  pick_same e here (there k q) = absurd (dep_not k (sym e))
  pick_same e (there k p) here = absurd (dep_not k e)
  pick_same e (there {b = b} k p) (there l q) = ap (λ (x : Word Γ). b ∷ x) (pick_same e p q)

  pub pick_unique : {c : Letter} {w r s : Word Γ} → Pick Γ c w r → Pick Γ c w s → r ≡ s
  pick_unique p q = pick_same refl p q

  pub pick_length : {c : Letter} {w r : Word Γ} → Pick Γ c w r → length w ≡ suc (length r)
  pick_length p = ~-length (pick_front p)

  pub pick_nil : {c : Letter} {r : Word Γ} → Pick Γ c [] r → ⊥
  pick_nil p = elim p [ ]

  -- a word in which nothing can come first is empty
  pub first-none : (w : Word Γ) → ((d : Letter) → First Γ d w → ⊥) → w ≡ []
  first-none [] f = refl
  first-none (a ∷ w) f = absurd (f a (w, here))

  pub not_first_nil : {c : Letter} → ¬ First Γ c []
  not_first_nil (r, p) = pick_nil p

  -- neither at the head nor behind it
  pub not_first_cons : {c b : Letter} {w : Word Γ} → ¬ (c ≡ b) → (dep Γ c b ≡ false → ¬ First Γ c w)
      → ¬ First Γ c (b ∷ w)
  not_first_cons n k (r, here) = n refl
  not_first_cons n k (r, there {r = s} d p) = k d (s, p)

  pub cons_cancel : {c : Letter} {x y : Word Γ} → (c ∷ x) ~ (c ∷ y) → x ~ y
  cons_cancel {c} {x} {y} e =
      let (s, q, f) = pick_along e here in
      subst (λ (z : Word Γ). x ~ z) (pick_unique q here) f

  pub first_along : {c : Letter} {w v : Word Γ} → w ~ v → First Γ c w → First Γ c v
  first_along e (r, p) = let (s, q, f) = pick_along e p in (s, q)

  -- two letters that can come first are independent, and either can follow the other
  pub pick_diamond : {c d : Letter} {w u v : Word Γ} → ¬ (c ≡ d) → Pick Γ c w u → Pick Γ d w v
      → (dep Γ c d ≡ false) × ((s : Word Γ) × Pick Γ d u s × Pick Γ c v s)
  pick_diamond n here here = absurd (n refl)
  pick_diamond {c} {d} n here (there {r = r} k q) = (dep_sym {a = d} {b = c} k, (r, q, here))
  pick_diamond n (there {r = r} k p) here = (k, (r, here, p))
  pick_diamond n (there {b = b} k p) (there l q) =
      let (f, (s, o, m)) = pick_diamond n p q in
      (f, (b ∷ s, there l o, there k m))

  -- two letters of one command that can come first are equal
  pub first_eq : {c d : Letter} {w : Word Γ} → First Γ c w → First Γ d w → cmd c ≡ cmd d → c ≡ d
  first_eq {c} {d} {w} (r, p) (s, q) e = go (Γ.same c d)
    where
      go : Dec (c ≡ d) → c ≡ d
      go (yes k) = k
      go (no n) = absurd (true≢false (sym (dep-cmd {c = c} {d = d} e) ∙ (pick_diamond n p q).0))

  -- c is independent of every letter of w
  abbrev pub Apart : Letter → Word Γ → Type 0
  Apart c [] = Unit {0}
  Apart c (b ∷ w) = (dep Γ c b ≡ false) × Apart c w

  -- of a product, its two factors
  pub apart_factors : (c : Letter) (v w : Word Γ) → Apart c (v ++ w) → Apart c v × Apart c w
  apart_factors c [] w p = (tt, p)
  apart_factors c (b ∷ v) w p = let (q, r) = apart_factors c v w p.1 in ((p.0, q), r)

  pub apart_append : (c : Letter) (v w : Word Γ) → Apart c v → Apart c w → Apart c (v ++ w)
  apart_append c [] w p q = q
  apart_append c (b ∷ v) w p q = (p.0, apart_append c v w p.1 q)

  pub apart_along : {v w : Word Γ} → v ~ w → (c : Letter) → Apart c v → Apart c w
  apart_along done c p = p
  apart_along (cons e) c p = (p.0, apart_along e c p.1)
  apart_along (swap d) c p = (p.1.0, (p.0, p.1.1))
  apart_along (next e f) c p = apart_along f c (apart_along e c p)

  -- a letter passes a word that it is independent of
  pub apart_pass : (c : Letter) (p : Word Γ) → Apart c p → (w : Word Γ) → (c ∷ p ++ w) ~ (p ++ c ∷ w)
  apart_pass c [] k w = ~_refl _
  apart_pass c (b ∷ p) k w = next (swap k.0) (cons (apart_pass c p k.1 w))

  pub pick_after : {c : Letter} {p r : Word Γ} → Pick Γ c p r → (q : Word Γ) → Pick Γ c (p ++ q) (r ++ q)
  pick_after here q = here
  pick_after (there k p) q = there k (pick_after p q)

  pub pick_past : {c : Letter} (p : Word Γ) {q r : Word Γ} → Apart c p → Pick Γ c q r → Pick Γ c (p ++ q) (p ++ r)
  pick_past [] k o = o
  pick_past (b ∷ p) k o = there k.0 (pick_past p k.1 o)

  -- c first in p ++ q: first in p, or independent of p and first in q
  pub data Splits (c : Letter) (p q r : Word Γ) : Type 0 where
    early : (s : Word Γ) → Pick Γ c p s → r ≡ s ++ q → Splits c p q r
    late : (s : Word Γ) → Apart c p → Pick Γ c q s → r ≡ p ++ s → Splits c p q r

  pub pick_split : {c : Letter} (p q : Word Γ) {r : Word Γ} → Pick Γ c (p ++ q) r → Splits c p q r
  pick_split [] q {r = r} o = late r tt o refl
  pick_split (b ∷ p) q here = early p here refl
  pick_split (b ∷ p) q (there k o) = go k (pick_split p q o)
    where
      go : {c : Letter} {r : Word Γ} → dep Γ c b ≡ false → Splits c p q r → Splits c (b ∷ p) q (b ∷ r)
      go k (early s o e) = early (b ∷ s) (there k o) (ap (λ (x : Word Γ). b ∷ x) e)
      go k (late s a o e) = late s (k, a) o (ap (λ (x : Word Γ). b ∷ x) e)
