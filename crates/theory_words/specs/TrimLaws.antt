-- Laws of trimming: of a word that is g, then r, up to swaps, the letters of g are the first of their commands, so that
-- without as many letters of each command as g has the word is r. The same from the end, on the words backwards.
use Rattle.std.specs.Prelude.{ℕ, ◌-◌, ◌≡◌}
use Rattle.std.proofs.Common.{arith, sym, ◌∙◌, true≢false, eq-eqb, ne_eqb}
use Rattle.std.proofs.Math.Decide.{ℕ_discrete}
use Rattle.std.proofs.Math.Path.{refl, ap, subst}
use mathlib.Core.List.{[], ◌∷◌, ◌++◌, map, reverse, reverse-append, reverse-reverse}
use Rattle.theory_words.specs.Alphabet.{Alphabet, Word}
use Rattle.theory_words.specs.Trace as Trace
use Rattle.theory_words.specs.Trace.{Pick, here, there}
use Rattle.theory_words.specs.Group.{undo}
use Rattle.theory_words.specs.TraceLaws.{dep-cmd, ~_sym, ~-reverse, pick_along}
use Rattle.theory_words.specs.Trim.{Less, tally, tally_step, Trims, none, keep, off}

-- of two commands one less each, in either order
less_two : {n m l : ℕ → ℕ} {j k : ℕ} → ¬ (j ≡ k) → Less n j m → Less n k l
    → (o : ℕ → ℕ) × Less l j o × Less m k o
less_two {n} {m} {l} {j} {k} d a b = (
  λ i. l i - (n i - m i),
  record {
    own = omega (arith, a.own, b.others j d);
    others = λ i e. omega (arith, a.others i e);
  },
  record {
    own = omega (arith, b.own, a.others k (λ e. d (sym e)));
    others = λ i e. go i e (ℕ_discrete i j);
  },
)
  where
    go : (i : ℕ) → ¬ (i ≡ k) → Dec (i ≡ j) → m i ≡ l i - (n i - m i)
    go i e (yes f) = rw f (omega (arith, a.own, b.others j d))
    go i e (no f) = omega (arith, a.others i f, b.others i e)

module _ (Γ : Alphabet) where
  open Γ use {Letter, inv, cmd}

  infix 20 ◌~◌
  abbrev ◌~◌ : Word Γ → Word Γ → Type 0
  ◌~◌ = Trace.◌~◌ Γ

  tally_less : (a : Letter) (g : Word Γ) → Less (tally Γ (a ∷ g)) (cmd a) (tally Γ g)
  unfolding tally
  tally_less a g = record {
    own = ap (λ t. tally_step t (tally Γ g (cmd a))) (eq-eqb (cmd a) (cmd a) refl);
    others = λ j e. ap (λ t. tally_step t (tally Γ g j)) (ne_eqb (cmd a) j (λ f. e (sym f)));
  }

  pub tally_undone : (g : Word Γ) (k : ℕ) → tally Γ (map inv g) k ≡ tally Γ g k
  unfolding tally
  tally_undone [] k = refl
  tally_undone (a ∷ g) k = rw (Γ.cmd-inv a, tally_undone g k)

  -- the numbers alone matter
  pub trims_same : {n m : ℕ → ℕ} {x y : Word Γ} → ((k : ℕ) → n k ≡ m k) → Trims Γ n x y → Trims Γ m x y
  trims_same e none = none
  trims_same e (keep {a = a} z t) = keep (sym (e (cmd a)) ∙ z) (trims_same e t)
  trims_same e (off {a = a} l t) =
      off (record { own = sym (e (cmd a)) ∙ l.own; others = λ j d. sym (e j) ∙ l.others j d }) t

  trims_nothing : {n : ℕ → ℕ} {x y : Word Γ} → ((k : ℕ) → n k ≡ 0) → Trims Γ n x y → y ≡ x
  trims_nothing e none = refl
  trims_nothing e (keep {a = a} z t) = ap (λ (w : Word Γ). a ∷ w) (trims_nothing e t)
  trims_nothing e (off {a = a} l t) = absurd (omega (arith, e (cmd a), l.own))

  -- a letter that can come first is the first of its command
  trims_pick : {a : Letter} {n m : ℕ → ℕ} {x r y : Word Γ} → Pick Γ a x r → Less n (cmd a) m → Trims Γ n x y
      → Trims Γ m r y
  trims_pick here l (keep z t) = absurd (omega (arith, z, l.own))
  trims_pick {a = a} {m = m} here l (off {m = o} k t) = trims_same (λ j. go j (ℕ_discrete j (cmd a))) t
    where
      go : (j : ℕ) → Dec (j ≡ cmd a) → o j ≡ m j
      go j (yes e) = rw e (omega (arith, l.own, k.own))
      go j (no e) = sym (k.others j e) ∙ l.others j e
  trims_pick {a = a} (there {b = b} d p) l (keep z t) =
      keep (sym (l.others (cmd b) (λ e. true≢false (sym (dep-cmd Γ (sym e)) ∙ d))) ∙ z) (trims_pick p l t)
  trims_pick {a = a} (there {b = b} d p) l (off {m = m'} k t) =
      let (o, f, g) = less_two (λ e. true≢false (sym (dep-cmd Γ (sym e)) ∙ d)) k l in
      off f (trims_pick {n = m'} p g t)

  pub trims_front : (g r : Word Γ) {x y : Word Γ} → x ~ (g ++ r) → Trims Γ (tally Γ g) x y → y ~ r
  unfolding tally
  trims_front [] r e t = subst (λ (w : Word Γ). w ~ r) (sym (trims_nothing (λ k. refl) t)) e
  trims_front (a ∷ g) r e t =
      let (s, p, f) = pick_along Γ (~_sym Γ e) here in
      trims_front g r (~_sym Γ f) (trims_pick p (tally_less a g) t)

  -- the letters of g in front, and behind, on the word backwards, their undos
  pub trims_both : (g z : Word Γ) {x y w : Word Γ} → x ~ (g ++ (z ++ undo Γ g [])) → Trims Γ (tally Γ g) x y
      → Trims Γ (tally Γ g) (reverse y) w → reverse w ~ z
  trims_both g z {y = y} {w = w} e t u =
      let f : reverse y ~ (map inv g ++ reverse z) =
      rw (← reverse-reverse (map inv g), ← reverse-append z (undo Γ g []))
      (~-reverse Γ (trims_front g (z ++ undo Γ g []) e t)) in
      let d = trims_front (map inv g) (reverse z) f (trims_same (λ k. sym (tally_undone g k)) u) in
      subst (λ (v : Word Γ). reverse w ~ v) (reverse-reverse z) (~-reverse Γ d)
