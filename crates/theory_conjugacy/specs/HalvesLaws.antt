-- Laws of the halves of a split: they go along swaps, they are known by their properties, and so the number of rounds
-- is that of the word up to swaps.
use Prim.Native.Nat.{ℕ, zero, suc}
use Rattle.std.proofs.Common.{arith, ◌∙◌, subst}
use Rattle.std.specs.Prelude.{◌≡◌, Bool, true, false, ◌||◌}
use Rattle.std.proofs.Math.Path.{refl, sym, ap}
use mathlib.Core.List.{List, [], ◌∷◌, ◌++◌}
use Rattle.theory_words.specs.Alphabet.{Alphabet, Word}
use Rattle.theory_words.specs.All.{All}
use Rattle.theory_words.specs.Trace as Trace
use Rattle.theory_words.specs.Trace.{here, done, cons, swap, next}
use Rattle.theory_words.specs.TraceLaws.{dep_sym, ~_refl, ~_sym, ~-length, ~_before, ~_after, first_along}
use Rattle.theory_conjugacy.specs.Settle.{hit, split, counted, counted_step, Split, stop, up, low}
use Rattle.theory_conjugacy.specs.SettleLaws.{or_swap, Pyramid, hit-cons, hit_past, hit_nil, split_free}
use Rattle.theory_conjugacy.specs.SettleLaws.{split_~, split_splits, split_unique}

module _ (Γ : Alphabet) (m : ℕ) where
  open Γ use {Letter, cmd, conf}

  infix 20 ◌~◌
  abbrev ◌~◌ : Word Γ → Word Γ → Type 0
  ◌~◌ = Trace.◌~◌ Γ

  -- the split goes along swaps

  -- it depends on R only through the test
  split_same : {R S : List ℕ} {w p q : Word Γ} → ((a : Letter) → hit Γ m R a ≡ hit Γ m S a) → Split Γ m R w p q
      → Split Γ m S w p q
  split_same f stop = stop
  split_same {R} {S} f (up {b = b} h s) = up (sym (f b) ∙ h) (split_same (λ a. hit-cons Γ m (cmd b) R a
      ∙ ap (λ (t : Bool). conf (cmd a) (cmd b) || t) (f a) ∙ sym (hit-cons Γ m (cmd b) S a)) s)
  split_same f (low {b = b} h s) = low (sym (f b) ∙ h) (split_same f s)

  hit_swap : (j k : ℕ) (R : List ℕ) (a : Letter) → hit Γ m (j ∷ k ∷ R) a ≡ hit Γ m (k ∷ j ∷ R) a
  hit_swap j k R a = rw (hit-cons Γ m j (k ∷ R) a, hit-cons Γ m k R a, hit-cons Γ m k (j ∷ R) a, hit-cons Γ m j R a)
      (or_swap (conf (cmd a) j) (conf (cmd a) k) (hit Γ m R a))

  -- the halves of w, up to swaps
  abbrev pub Halved : List ℕ → Word Γ → Word Γ → Word Γ → Type 0
  Halved R w p q = (x : Word Γ) × (y : Word Γ) × Split Γ m R w x y × (p ~ x) × (q ~ y)

  split_swap : {R : List ℕ} {a b : Letter} {w p q : Word Γ} → conf (cmd a) (cmd b) ≡ false
      → Split Γ m R (a ∷ b ∷ w) p q → Halved R (b ∷ a ∷ w) p q
  split_swap {R} {a} {b} d (up h (up {p = p} {q = q} k s)) = (
    p,
    b ∷ a ∷ q,
    up (sym (hit_past Γ m (cmd a) R b (dep_sym Γ {a = a} {b = b} d)) ∙ k)
        (up (hit_past Γ m (cmd b) R a d ∙ h) (split_same (hit_swap (cmd b) (cmd a) R) s)),
    ~_refl Γ p,
    swap d,
  )
  split_swap {R} {a} {b} d (up h (low {p = p} {q = q} k s)) = (
    b ∷ p,
    a ∷ q,
    low (sym (hit_past Γ m (cmd a) R b (dep_sym Γ {a = a} {b = b} d)) ∙ k) (up h s),
    ~_refl Γ (b ∷ p),
    ~_refl Γ (a ∷ q),
  )
  split_swap {R} {a} {b} d (low h (up {p = p} {q = q} k s)) =
      (a ∷ p, b ∷ q, up k (low (hit_past Γ m (cmd b) R a d ∙ h) s), ~_refl Γ (a ∷ p), ~_refl Γ (b ∷ q))
  split_swap {R} {a} {b} d (low h (low {p = p} {q = q} k s)) = (b ∷ a ∷ p, q, low k (low h s), swap d, ~_refl Γ q)

  pub split_along : {R : List ℕ} {v w p q : Word Γ} → v ~ w → Split Γ m R v p q → Halved R w p q
  split_along done stop = ([], [], stop, done, done)
  split_along {R = R} (cons {a = a} e) (up h s) = let (x, y, t, f, g) = split_along {R = cmd a ∷ R} e s in (x, a ∷ y, up h t, f, cons g)
  split_along (cons {a = a} e) (low h s) = let (x, y, t, f, g) = split_along e s in (a ∷ x, y, low h t, cons f, g)
  split_along (swap d) s = split_swap d s
  split_along (next d e) s =
      let (x, y, t, f, g) = split_along d s in
      let (z, u, r, h, k) = split_along e t in
      (z, u, r, next f h, next g k)

  -- a split by its properties

  split_whole : {R : List ℕ} {w q : Word Γ} → Split Γ m R w [] q → w ≡ q
  split_whole stop = refl
  split_whole (up {b = b} h s) = ap (λ (x : Word Γ). b ∷ x) (split_whole s)

  -- a pyramid is raised whole: a letter left low could come first
  pyramid_split : {w : Word Γ} (p : Word Γ) {q : Word Γ} → Pyramid Γ m w → Split Γ m [] w p q → Split Γ m [] w [] w
  pyramid_split {w} [] h s = subst (λ (x : Word Γ). Split Γ m [] w [] x) (sym (split_whole s)) s
  pyramid_split (b ∷ p) {q} h s =
      absurd ((split_free Γ m s).0 (h b (first_along Γ (~_sym Γ (split_~ Γ m s)) (p ++ q, here))))

  -- what is free of the apex stays low
  split_before : (p : Word Γ) {q : Word Γ} → All (λ a. ¬ (cmd a ≡ m)) p → Split Γ m [] q [] q
      → Split Γ m [] (p ++ q) p q
  split_before [] h s = s
  split_before (a ∷ p) h s = low (go (hit Γ m [] a) refl) (split_before p h.1 s)
    where
      go : (t : Bool) → hit Γ m [] a ≡ t → t ≡ false
      go true e = absurd (h.0 (hit_nil Γ m a e))
      go false e = refl

  -- p free of the apex, then a pyramid q: the halves of w are these, up to swaps
  pub halved : {w : Word Γ} (p q : Word Γ) → w ~ (p ++ q) → All (λ a. ¬ (cmd a ≡ m)) p → Pyramid Γ m q → Halved [] w p q
  halved p q e h k =
      let s = pyramid_split (split Γ m [] q).0 k (split_splits Γ m [] q) in
      split_along (~_sym Γ e) (split_before p h s)

  -- the number of rounds

  step_along : (p q x y : Word Γ) (f : Word Γ → ℕ) → p ~ x → f (q ++ p) ≡ f (y ++ x)
      → counted_step Γ m p q f ≡ counted_step Γ m x y f
  unfolding counted_step
  step_along [] q [] y f d e = refl
  step_along [] q (a ∷ x) y f d e = absurd (omega (arith, ~-length Γ d))
  step_along (b ∷ p) q [] y f d e = absurd (omega (arith, ~-length Γ d))
  step_along (b ∷ p) q (a ∷ x) y f d e = ap suc e

  -- a round of w, by its halves up to swaps
  counted_halved : (n : ℕ) {w p q : Word Γ} → ((u v : Word Γ) → u ~ v → counted Γ m n u ≡ counted Γ m n v)
      → Halved [] w p q → counted Γ m (suc n) w ≡ counted_step Γ m p q (counted Γ m n)
  unfolding counted
  counted_halved n {w} {p} {q} k (x, y, s, f, g) =
      let (d, e) = split_unique Γ m s in
      let h = k (q ++ p) (y ++ x) (next (~_after Γ g p) (~_before Γ y f)) in
      rw (d, e) (sym (step_along p q x y (counted Γ m n) f h))

  -- words up to swaps take the same number of rounds
  pub counted_along : (n : ℕ) (v w : Word Γ) → v ~ w → counted Γ m n v ≡ counted Γ m n w
  unfolding counted
  counted_along zero v w e = refl
  counted_along (suc n) v w e =
      sym (counted_halved n (counted_along n) (split_along e (split_splits Γ m [] v)))

  -- a round of w, by the properties of its halves
  pub counted_round : (n : ℕ) {w : Word Γ} (p q : Word Γ) → w ~ (p ++ q) → All (λ a. ¬ (cmd a ≡ m)) p
      → Pyramid Γ m q → counted Γ m (suc n) w ≡ counted_step Γ m p q (counted Γ m n)
  counted_round n p q e h k = counted_halved n (counted_along n) (halved p q e h k)
