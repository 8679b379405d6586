-- Laws of reduction: what it computes, that equal words reduce to one word up to swaps, and that reduced words are the
-- shortest.
use Rattle.std.specs.Prelude.{suc, ◌+◌, ◌≤◌, ◌≡◌, Bool, ◌↔◌, length}
use Rattle.std.proofs.Math.Path.{refl, ap}
use Rattle.std.proofs.Common.{sym, ◌∙◌, subst}
use Rattle.std.proofs.Math.Bool.{true, false, true≢false}
use mathlib.Core.List.{[], ◌∷◌, ◌++◌, reverse, reverse-reverse}
use Rattle.std.proofs.Math.Option.{Option, none, some}
use Rattle.std.proofs.lemmas.List.{length-reverse}
use native.Mathlib.Omega.{arith}
use Rattle.theory_words.specs.Alphabet.{Alphabet, Word, dep}
use Rattle.theory_words.specs.Trace as Trace
use Rattle.theory_words.specs.Trace.{Pick, here, there, First, done, cons, swap, next}
use Rattle.theory_words.specs.Group as Group
use Rattle.theory_words.specs.Group.{Reduced, undo, empty, keep, trade, drop, then, back}
use Rattle.theory_words.specs.Reduce.{without, without_step, act, act_step, reduce}
use Rattle.theory_words.specs.TraceLaws.{dep_sym, dep_not, ~_refl, ~_sym, ~-length, pick_front, pick_along}
use Rattle.theory_words.specs.TraceLaws.{pick_unique, pick_length, first_along, not_first_nil, not_first_cons}
use Rattle.theory_words.specs.TraceLaws.{pick_diamond, Splits, early, late, pick_after, pick_past, pick_split}
use Rattle.theory_words.specs.GroupLaws.{dep-inv, dep-inv_right, ≈_refl, ≈_of_≡, ~→≈, drop_back, ≈-reverse}
use Rattle.theory_words.specs.GroupLaws.{undo_onto, undo_twice, undo_length, ≈-undo, apart_undo}

module _ (Γ : Alphabet) where
  open Γ use {Letter, inv}

  infix 20 ◌~◌ ◌≈◌
  abbrev ◌~◌ : Word Γ → Word Γ → Type 0
  ◌~◌ = Trace.◌~◌ Γ

  abbrev ◌≈◌ : Word Γ → Word Γ → Type 0
  ◌≈◌ = Group.◌≈◌ Γ

  -- what `without` answers
  pub data Sees (c : Letter) (w : Word Γ) : Option (Word Γ) → Type 0 where
    seen : {r : Word Γ} → Pick Γ c w r → Sees c w (some r)
    unseen : ¬ First Γ c w → Sees c w none

  sees_step : {c b : Letter} {w : Word Γ} {o : Option (Word Γ)} (s : Dec (c ≡ b)) (d : Bool) → dep Γ c b ≡ d
      → Sees c w o → Sees c (b ∷ w) (without_step Γ w s d o)
  unfolding without_step
  sees_step {c} {b} {w} (yes e) d k s = seen (subst (λ (x : Letter). Pick Γ c (x ∷ w) w) e here)
  sees_step (no n) true k s = unseen (not_first_cons Γ n (λ l f. true≢false (sym k ∙ l)))
  sees_step (no n) false k (seen p) = seen (there k p)
  sees_step (no n) false k (unseen u) = unseen (not_first_cons Γ n (λ l f. u f))

  pub sees : (c : Letter) (w : Word Γ) → Sees c w (without Γ c w)
  unfolding without
  sees c [] = unseen (not_first_nil Γ)
  sees c (b ∷ w) = sees_step (Γ.same c b) (dep Γ c b) refl (sees c w)

  sees_pick : {c : Letter} {w r : Word Γ} {o : Option (Word Γ)} → Sees c w o → Pick Γ c w r → o ≡ some r
  sees_pick (seen p) q = ap some (pick_unique Γ p q)
  sees_pick {r = r} (unseen n) q = absurd (n (r, q))

  sees_first : {c : Letter} {w : Word Γ} {o : Option (Word Γ)} → Sees c w o → Dec (First Γ c w)
  sees_first (seen {r = r} p) = yes (r, p)
  sees_first (unseen n) = no n

  pub pick_without : {c : Letter} {w r : Word Γ} → Pick Γ c w r → without Γ c w ≡ some r
  pick_without {c} {w} p = sees_pick (sees c w) p

  pub first? : (c : Letter) (w : Word Γ) → Dec (First Γ c w)
  first? c w = sees_first (sees c w)

  -- a put before w, or taken out with its undo, is r
  pub data Act (a : Letter) (w : Word Γ) : Word Γ → Type 0 where
    cut : {r : Word Γ} → Pick Γ (inv a) w r → Act a w r
    put : ¬ First Γ (inv a) w → Act a w (a ∷ w)

  pub acts : (a : Letter) (w : Word Γ) → Act a w (act Γ a w)
  unfolding act act_step
  acts a w = go (sees (inv a) w)
    where
      go : {o : Option (Word Γ)} → Sees (inv a) w o → Act a w (act_step Γ a w o)
      go (seen p) = cut p
      go (unseen n) = put n

  pub act_unique : {a : Letter} {w r s : Word Γ} → Act a w r → Act a w s → r ≡ s
  act_unique (cut p) (cut q) = pick_unique Γ p q
  act_unique (cut {r = r} p) (put n) = absurd (n (r, p))
  act_unique (put n) (cut {r = r} p) = absurd (n (r, p))
  act_unique (put n) (put m) = refl

  pub act_is : {a : Letter} {w r : Word Γ} → Act a w r → act Γ a w ≡ r
  act_is {a} {w} p = act_unique (acts a w) p

  pub act_along : {a : Letter} {v w r : Word Γ} → v ~ w → Act a v r → (s : Word Γ) × Act a w s × (r ~ s)
  act_along e (cut p) = let (s, q, f) = pick_along Γ e p in (s, cut q, f)
  act_along {a} {w = w} e (put n) = (a ∷ w, put (λ f. n (first_along Γ (~_sym Γ e) f)), cons e)

  pub act-~ : (a : Letter) {v w : Word Γ} → v ~ w → act Γ a v ~ act Γ a w
  act-~ a {v} {w} e =
      let (s, p, f) = act_along e (acts a v) in
      subst (λ (x : Word Γ). act Γ a v ~ x) (act_unique p (acts a w)) f

  -- b cuts, its independent a does not: in either order
  pub act_past : {a b : Letter} {w u : Word Γ} → dep Γ a b ≡ false → Pick Γ (inv b) w u → ¬ First Γ (inv a) w
      → Act a u (a ∷ u) × Act b (a ∷ w) (a ∷ u)
  act_past {a} {b} {w} {u} d p n = (
    put (λ (f : First Γ (inv a) u). n (first_along Γ (~_sym Γ (pick_front Γ p))
        (inv b ∷ f.0, there (dep-inv Γ a (inv b) ∙ dep-inv_right Γ a b ∙ d) f.1))),
    cut (there (dep-inv Γ b a ∙ dep_sym Γ {a = a} {b = b} d) p),
  )

  -- independent letters act on one word in either order
  pub act_both : {a b : Letter} {w u v : Word Γ} → dep Γ a b ≡ false → Act b w u → Act a w v
      → (s : Word Γ) × (t : Word Γ) × Act a u s × Act b v t × (s ~ t)
  act_both {a} {b} d (cut p) (cut q) =
      let k = dep-inv Γ b (inv a) ∙ dep-inv_right Γ b a ∙ dep_sym Γ {a = a} {b = b} d in
      let (l, (s, m, o)) = pick_diamond Γ (dep_not Γ k) p q in
      (s, s, cut m, cut o, ~_refl Γ s)
  act_both {a} {u = u} d (cut p) (put n) = let (m, o) = act_past d p n in (a ∷ u, a ∷ u, m, o, ~_refl Γ _)
  act_both {a} {b} {v = v} d (put n) (cut p) =
      let (m, o) = act_past (dep_sym Γ {a = a} {b = b} d) p n in
      (b ∷ v, b ∷ v, o, m, ~_refl Γ _)
  act_both {a} {b} {w = w} d (put n) (put m) = (
    a ∷ b ∷ w,
    b ∷ a ∷ w,
    put (not_first_cons Γ (dep_not Γ (dep-inv Γ a b ∙ d)) (λ k. m)),
    put (not_first_cons Γ (dep_not Γ (dep-inv Γ b a ∙ dep_sym Γ {a = a} {b = b} d)) (λ k. n)),
    swap d,
  )

  pub act_swap : (a b : Letter) → dep Γ a b ≡ false → (w : Word Γ) → act Γ a (act Γ b w) ~ act Γ b (act Γ a w)
  act_swap a b d w =
      let (s, t, p, q, e) = act_both d (acts b w) (acts a w) in
      rw (act_is p, act_is q) e

  -- being reduced is kept by swaps
  pub reduced_along : {v w : Word Γ} → v ~ w → Reduced Γ v → Reduced Γ w
  reduced_along done r = r
  reduced_along (cons e) r = (λ f. r.0 (first_along Γ (~_sym Γ e) f), reduced_along e r.1)
  reduced_along (swap {a = a} {b = b} d) r = (
    not_first_cons Γ (dep_not Γ (dep-inv Γ b a ∙ dep_sym Γ {a = a} {b = b} d)) (λ k. r.1.0),
    ((λ f. r.0 (b ∷ f.0, there (dep-inv Γ a b ∙ d) f.1)), r.1.1),
  )
  reduced_along (next e f) r = reduced_along f (reduced_along e r)

  pub reduced_pick : {c : Letter} {w r : Word Γ} → Pick Γ c w r → Reduced Γ w → Reduced Γ (c ∷ r)
  reduced_pick p r = reduced_along (pick_front Γ p) r

  pub act_reduced : {a : Letter} {w r : Word Γ} → Act a w r → Reduced Γ w → Reduced Γ r
  act_reduced (cut p) r = (reduced_pick p r).1
  act_reduced (put n) r = (n, r)

  -- a letter, then its undo, on a reduced word
  pub act_undone : {a : Letter} {w u : Word Γ} → Reduced Γ w → Act (inv a) w u → (s : Word Γ) × Act a u s × (s ~ w)
  act_undone {a} {w} {u} r (cut p) =
      let k : w ~ (a ∷ u) = subst (λ (b : Letter). w ~ (b ∷ u)) (Γ.inv-inv a) (pick_front Γ p) in
      (a ∷ u, put (reduced_along k r).0, ~_sym Γ k)
  act_undone {a} {w} r (put n) = (w, cut here, ~_refl Γ w)

  pub act_back : (a : Letter) (w : Word Γ) → Reduced Γ w → act Γ a (act Γ (inv a) w) ~ w
  act_back a w r = let (s, p, e) = act_undone r (acts (inv a) w) in rw (act_is p) e

  pub reduce_reduced : (w : Word Γ) → Reduced Γ (reduce Γ w)
  unfolding reduce
  reduce_reduced [] = tt
  reduce_reduced (a ∷ w) = act_reduced (acts a (reduce Γ w)) (reduce_reduced w)

  -- equal words reduce to one word up to swaps
  pub reduce-~ : {u v : Word Γ} → u ≈ v → reduce Γ u ~ reduce Γ v
  unfolding reduce
  reduce-~ empty = done
  reduce-~ (keep {a = a} e) = act-~ a (reduce-~ e)
  reduce-~ (trade {a = a} {b = b} {w = w} d) = act_swap a b d (reduce Γ w)
  reduce-~ (drop {a = a} {w = w}) = act_back a (reduce Γ w) (reduce_reduced w)
  reduce-~ (then e f) = next (reduce-~ e) (reduce-~ f)
  reduce-~ (back e) = ~_sym Γ (reduce-~ e)

  pub act_≈ : {a : Letter} {w r : Word Γ} → Act a w r → r ≈ (a ∷ w)
  act_≈ (cut p) = then (back drop) (keep (back (~→≈ Γ (pick_front Γ p))))
  act_≈ {a} {w} (put n) = ≈_refl Γ (a ∷ w)

  -- w begins with a, and p follows, exactly if w after the undo of a is p
  pub act_shift : (a : Letter) (w p : Word Γ) → (w ≈ (a ∷ p)) ↔ (act Γ (inv a) w ≈ p)
  act_shift a w p =
      let e : act Γ (inv a) w ≈ (inv a ∷ w) = act_≈ (acts (inv a) w) in
      (λ f. then e (then (keep f) (drop_back Γ a p)), λ f. then (back drop) (keep (then (back e) f)))

  pub reduce-≈ : (w : Word Γ) → reduce Γ w ≈ w
  unfolding reduce
  reduce-≈ [] = empty
  reduce-≈ (a ∷ w) = then (act_≈ (acts a (reduce Γ w))) (keep (reduce-≈ w))

  pub reduce_fixed : (w : Word Γ) → Reduced Γ w → reduce Γ w ≡ w
  unfolding reduce
  reduce_fixed [] r = refl
  reduce_fixed (a ∷ w) r = ap (act Γ a) (reduce_fixed w r.1) ∙ act_is (put r.0)

  -- reduced words that are equal differ by swaps
  pub reduced_~ : (u v : Word Γ) → Reduced Γ u → Reduced Γ v → u ≈ v → u ~ v
  reduced_~ u v p q e =
      let k : reduce Γ u ~ reduce Γ v = reduce-~ e in
      rw (reduce_fixed u p, reduce_fixed v q) at k

  -- reduced words are the shortest
  pub act_length : {a : Letter} {w r : Word Γ} → Act a w r → length r ≤ suc (length w)
  act_length (cut p) = omega (arith, pick_length Γ p)
  act_length (put n) = omega arith

  -- a letter that cancels leaves one less, any other one more
  pub act_falls : (a : Letter) (w : Word Γ) → First Γ (inv a) w → length w ≡ length (act Γ a w) + 1
  act_falls a w (r, p) = rw (act_is (cut p)) (omega (arith, pick_length Γ p))

  pub act_rises : (a : Letter) (w : Word Γ) → ¬ First Γ (inv a) w → length (act Γ a w) ≡ length w + 1
  act_rises a w n = rw (act_is (put n)) (omega arith)

  pub reduce-length : (w : Word Γ) → length (reduce Γ w) ≤ length w
  unfolding reduce
  reduce-length [] = omega arith
  reduce-length (a ∷ w) = omega (arith, act_length (acts a (reduce Γ w)), reduce-length w)

  pub reduce_least : (v w : Word Γ) → v ≈ w → length (reduce Γ w) ≤ length v
  reduce_least v w e = omega (arith, ~-length Γ (reduce-~ e), reduce-length v)

  pub reduced_least : (v w : Word Γ) → Reduced Γ w → v ≈ w → length w ≤ length v
  reduced_least v w r e = rw (reduce_fixed w r) at (reduce_least v w e)

  pub act_long : {a : Letter} {w r : Word Γ} → Act a w r → suc (length w) ≤ length r → ¬ First Γ (inv a) w
  act_long (cut p) h = absurd (omega (arith, pick_length Γ p))
  act_long (put n) h = n

  -- a word that reduction does not shorten is reduced
  pub long_reduced : (v : Word Γ) → length v ≤ length (reduce Γ v) → Reduced Γ v
  unfolding reduce
  long_reduced [] h = tt
  long_reduced (a ∷ v) h =
      let p = acts a (reduce Γ v) in
      let r : Reduced Γ v = long_reduced v (omega (arith, act_length p)) in
      let n : ¬ First Γ (inv a) (reduce Γ v) = act_long p (omega (arith, reduce-length v)) in
      (rw (reduce_fixed v r) at n, r)

  pub shortest_reduced : (v w : Word Γ) → v ≈ w → length v ≤ length (reduce Γ w) → Reduced Γ v
  shortest_reduced v w e h = long_reduced v (omega (arith, ~-length Γ (reduce-~ e)))

  -- a shortest word of a class is the reduced one, up to swaps
  pub shortest_~ : (v w : Word Γ) → v ≈ w → length v ≤ length (reduce Γ w) → v ~ reduce Γ w
  shortest_~ v w e h =
      reduced_~ v (reduce Γ w) (shortest_reduced v w e h) (reduce_reduced w) (then e (back (reduce-≈ w)))

  pub reduced_suffix : (p q : Word Γ) → Reduced Γ (p ++ q) → Reduced Γ q
  reduced_suffix [] q r = r
  reduced_suffix (a ∷ p) q r = reduced_suffix p q r.1

  pub reduced_prefix : (p q : Word Γ) → Reduced Γ (p ++ q) → Reduced Γ p
  reduced_prefix [] q r = tt
  reduced_prefix (a ∷ p) q r = (λ f. r.0 (f.0 ++ q, pick_after Γ f.1 q), reduced_prefix p q r.1)

  -- a map that respects equality, keeps lengths and is its own inverse keeps words reduced
  pub reduced_mirror : (f : Word Γ → Word Γ) → ((x y : Word Γ) → x ≈ y → f x ≈ f y)
      → ((x : Word Γ) → length (f x) ≡ length x) → ((x : Word Γ) → f (f x) ≡ x)
      → (w : Word Γ) → Reduced Γ w → Reduced Γ (f w)
  reduced_mirror f same long twice w r =
      let v = reduce Γ (f w) in
      let e : f v ≈ w = then (same v (f w) (reduce-≈ (f w))) (≈_of_≡ Γ (twice w)) in
      long_reduced (f w) (omega (arith, reduced_least (f v) w r e, long v, long w))

  pub reduced_reverse : (w : Word Γ) → Reduced Γ w → Reduced Γ (reverse w)
  reduced_reverse w r =
      reduced_mirror reverse (λ x y e. ≈-reverse Γ e) (λ x. length-reverse x) (λ x. reverse-reverse x) w r

  -- a word reduced from its other end: it has the word's effect, and differs from what reduction gives by swaps
  pub reduce_back_≈ : (w : Word Γ) → reverse (reduce Γ (reverse w)) ≈ w
  reduce_back_≈ w = subst (λ (x : Word Γ). reverse (reduce Γ (reverse w)) ≈ x) (reverse-reverse w)
      (≈-reverse Γ (reduce-≈ (reverse w)))

  pub reduce_back_reduced : (w : Word Γ) → Reduced Γ (reverse (reduce Γ (reverse w)))
  reduce_back_reduced w = reduced_reverse (reduce Γ (reverse w)) (reduce_reduced (reverse w))

  pub reduce_back_~ : (w : Word Γ) → reverse (reduce Γ (reverse w)) ~ reduce Γ w
  reduce_back_~ w = reduced_~ (reverse (reduce Γ (reverse w))) (reduce Γ w) (reduce_back_reduced w) (reduce_reduced w)
      (then (reduce_back_≈ w) (back (reduce-≈ w)))

  pub reduced_undo : (w : Word Γ) → Reduced Γ w → Reduced Γ (undo Γ w [])
  reduced_undo w r = reduced_mirror (λ x. undo Γ x []) (λ x y e. ≈-undo Γ e [])
      (λ x. omega (arith, undo_length inv x [])) (undo_twice Γ) w r

  -- a product is reduced if its factors are and no letter cancels where they meet
  pub reduced_append : (p q : Word Γ) → Reduced Γ p → Reduced Γ q
      → ((c : Letter) → First Γ c q → ¬ First Γ c (undo Γ p [])) → Reduced Γ (p ++ q)
  reduced_append [] q r s n = s
  reduced_append (a ∷ p) q r s n = ((λ f. met (pick_split Γ p q f.1)), reduced_append p q r.1 s below)
    where
      ends : undo Γ (a ∷ p) [] ≡ undo Γ p [] ++ inv a ∷ []
      ends = undo_onto inv p (inv a ∷ [])

      below : (c : Letter) → First Γ c q → ¬ First Γ c (undo Γ p [])
      below c f g = n c f (subst (First Γ c) (sym ends) (g.0 ++ inv a ∷ [], pick_after Γ g.1 (inv a ∷ [])))

      met : {t : Word Γ} → Splits Γ (inv a) p q t → ⊥
      met (early t o e) = r.0 (t, o)
      met (late t k o e) =
          let x = undo Γ p [] in
          let f = pick_past Γ x (apart_undo Γ (inv a) p [] k tt) here in
          n (inv a) (t, o) (subst (First Γ (inv a)) (sym ends) (x ++ [], f))
