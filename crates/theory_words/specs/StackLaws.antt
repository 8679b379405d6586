-- Laws of stacks: swaps keep every stack, and a bead that is no blank at the front of a stack is a letter that can come
-- first.
use Rattle.std.specs.Prelude.{ℕ, ◌≤◌, ◌≡◌, ◌⊎◌, Bool}
use native.Mathlib.Omega.{arith}
use Rattle.std.proofs.Math.Path.{refl, sym, ap, subst}
use Rattle.std.proofs.Common.{◌∙◌, inl, inr, true≢false}
use Rattle.std.proofs.Math.Bool.{true, false}
use mathlib.Core.List.{[], ◌∷◌, ◌++◌, nil≢cons, head-eq_of_cons-eq, tail-eq_of_cons-eq, append-nil, append_assoc}
use mathlib.Core.List.{reverse, reverse_aux, reverse_aux-eq, reverse-append, reverse-reverse}
use Rattle.std.proofs.Math.ListN.{length, length-append}
use Rattle.std.proofs.Math.Dec.{eqb}
use borrow.Author.Tests.{eqb-true, eqb-false, eq-eqb}
use Rattle.theory_words.specs.Alphabet.{Alphabet, Word, dep}
use Rattle.theory_words.specs.Trace as Trace
use Rattle.theory_words.specs.Trace.{Pick, here, there, First, done, cons, swap, next}
use Rattle.theory_words.specs.TraceLaws.{dep_sym, dep-cmd, pick_front}
use Rattle.theory_words.specs.Stack as Stack

module _ (Γ : Alphabet) (blank : Γ.Letter) where
  open Γ use {Letter, cmd, conf}

  infix 20 ◌~◌
  abbrev ◌~◌ : Word Γ → Word Γ → Type 0
  ◌~◌ = Trace.◌~◌ Γ

  abbrev mark_step : Bool → Bool → Letter → Word Γ
  mark_step = Stack.mark_step Γ blank

  abbrev mark : ℕ → Letter → Word Γ
  mark = Stack.mark Γ blank

  abbrev proj : ℕ → Word Γ → Word Γ
  proj = Stack.proj Γ blank

  abbrev NoBlank : Word Γ → Type 0
  NoBlank = Stack.NoBlank Γ blank

  -- marks

  pub mark_own : (b : Letter) → mark (cmd b) b ≡ b ∷ []
  unfolding Stack.mark Stack.mark_step
  mark_own b = rw (Γ.conf_refl (cmd b), eq-eqb (cmd b) (cmd b) refl)

  -- a mark is nothing, the letter, or the blank
  pub data Marked (k : ℕ) (b : Letter) : Word Γ → Type 0 where
    apart : conf k (cmd b) ≡ false → Marked k b []
    own : cmd b ≡ k → Marked k b (b ∷ [])
    other : conf k (cmd b) ≡ true → ¬ (cmd b ≡ k) → Marked k b (blank ∷ [])

  pub marked : (k : ℕ) (b : Letter) → Marked k b (mark k b)
  unfolding Stack.mark Stack.mark_step
  marked k b = go (conf k (cmd b)) (eqb (cmd b) k) refl refl
    where
      go : (t e : Bool) → conf k (cmd b) ≡ t → eqb (cmd b) k ≡ e → Marked k b (mark_step t e b)
      go false e p q = apart p
      go true false p q = other p (eqb-false (cmd b) k q)
      go true true p q = own (eqb-true (cmd b) k q)

  pub marked_length : {k : ℕ} {b : Letter} {m : Word Γ} → Marked k b m → length m ≤ 1
  marked_length (apart p) = omega arith
  marked_length (own p) = omega arith
  marked_length (other p n) = omega arith

  -- letters of one command put as many beads on each stack
  pub mark-length : (k : ℕ) (b c : Letter) → cmd b ≡ cmd c → length (mark k b) ≡ length (mark k c)
  unfolding Stack.mark Stack.mark_step
  mark-length k b c e = rw e (go (conf k (cmd c)) (eqb (cmd c) k))
    where
      go : (t o : Bool) → length (mark_step t o b) ≡ length (mark_step t o c)
      go false o = refl
      go true false = refl
      go true true = refl

  marked_turn : {k : ℕ} {b : Letter} {m : Word Γ} → Marked k b m → (x y : Word Γ)
      → reverse_aux (m ++ x) y ≡ reverse_aux x (m ++ y)
  marked_turn (apart p) x y = refl
  marked_turn (own p) x y = refl
  marked_turn (other p n) x y = refl

  own_clash : {k : ℕ} {a b x : Letter} {m : Word Γ} → dep Γ a b ≡ false → cmd a ≡ k → Marked k b (x ∷ m) → ⊥
  own_clash {a = a} {b = b} d p (own q) = true≢false (sym (dep-cmd Γ {c = a} {d = b} (p ∙ sym q)) ∙ d)
  own_clash {b = b} d p (other q n) = true≢false (sym q ∙ subst (λ (j : ℕ). conf j (cmd b) ≡ false) p d)

  marked_swap : {k : ℕ} {a b : Letter} {m n : Word Γ} → dep Γ a b ≡ false → Marked k a m → Marked k b n
      → m ++ n ≡ n ++ m
  marked_swap {n = n} d (apart p) q = sym (append-nil n)
  marked_swap d (own p) (apart q) = refl
  marked_swap {a = a} {b = b} d (own p) (own q) = absurd (own_clash {a = a} {b = b} d p (own q))
  marked_swap {a = a} {b = b} d (own p) (other q n) = absurd (own_clash {a = a} {b = b} d p (other q n))
  marked_swap d (other p n) (apart q) = refl
  marked_swap {a = a} {b = b} d (other p n) (own q) =
      absurd (own_clash {a = b} {b = a} (dep_sym Γ {a = a} {b = b} d) q (other p n))
  marked_swap d (other p n) (other q l) = refl

  -- projections

  pub proj-append : (k : ℕ) (u v : Word Γ) → proj k (u ++ v) ≡ proj k u ++ proj k v
  unfolding Stack.proj
  proj-append k [] v = refl
  proj-append k (b ∷ u) v =
      ap (λ (x : Word Γ). mark k b ++ x) (proj-append k u v)
      ∙ sym (append_assoc (mark k b) (proj k u) (proj k v))

  pub proj_onto : (k : ℕ) (u v : Word Γ) → proj k (reverse_aux u v) ≡ reverse_aux (proj k u) (proj k v)
  unfolding Stack.proj
  proj_onto k [] v = refl
  proj_onto k (b ∷ u) v = proj_onto k u (b ∷ v) ∙ sym (marked_turn (marked k b) (proj k u) (proj k v))

  pub proj-reverse : (k : ℕ) (w : Word Γ) → proj k (reverse w) ≡ reverse (proj k w)
  unfolding Stack.proj
  proj-reverse k w = proj_onto k w []

  pub proj-length : (k : ℕ) (w : Word Γ) → length (proj k w) ≤ length w
  unfolding Stack.proj
  proj-length k [] = omega arith
  proj-length k (b ∷ w) =
      omega (arith, length-append (mark k b) (proj k w), marked_length (marked k b), proj-length k w)

  pub proj_along : (k : ℕ) {v w : Word Γ} → v ~ w → proj k v ≡ proj k w
  unfolding Stack.proj
  proj_along k done = refl
  proj_along k (cons {a = a} e) = ap (λ (x : Word Γ). mark k a ++ x) (proj_along k e)
  proj_along k (swap {a = a} {b = b} {w = w} d) =
      sym (append_assoc (mark k a) (mark k b) (proj k w))
      ∙ ap (λ (x : Word Γ). x ++ proj k w) (marked_swap d (marked k a) (marked k b))
      ∙ append_assoc (mark k b) (mark k a) (proj k w)
  proj_along k (next e f) = proj_along k e ∙ proj_along k f

  pub proj_pick : (k : ℕ) {c : Letter} {w r : Word Γ} → Pick Γ c w r → proj k w ≡ mark k c ++ proj k r
  unfolding Stack.proj
  proj_pick k p = proj_along k (pick_front Γ p)

  -- a letter that can come first is at the front of its command's stack
  pub proj_first : {c : Letter} {w r : Word Γ} → Pick Γ c w r → proj (cmd c) w ≡ c ∷ proj (cmd c) r
  proj_first {c} {w} {r} p = proj_pick (cmd c) p ∙ ap (λ (x : Word Γ). x ++ proj (cmd c) r) (mark_own c)

  front_cases : {k : ℕ} {a b : Letter} {m : Word Γ} (x y : Word Γ) → Marked k a m → m ++ y ≡ b ∷ x → ¬ (b ≡ blank)
      → ((a ≡ b) × (cmd a ≡ k)) ⊎ ((conf k (cmd a) ≡ false) × (y ≡ b ∷ x))
  front_cases x y (apart p) e n = inr (p, e)
  front_cases x y (own p) e n = inl (head-eq_of_cons-eq e, p)
  front_cases x y (other p l) e n = absurd (n (sym (head-eq_of_cons-eq e)))

  -- a bead that is no blank at the front of a stack is a letter that can come first
  pub proj_front : (k : ℕ) (w : Word Γ) {b : Letter} {x : Word Γ} → proj k w ≡ b ∷ x → ¬ (b ≡ blank)
      → (cmd b ≡ k) × First Γ b w
  unfolding Stack.proj
  proj_front k [] e n = absurd (nil≢cons e)
  proj_front k (a ∷ w) {b} {x} e n = go (front_cases x (proj k w) (marked k a) e n) (proj_front k w)
    where
      go : ((a ≡ b) × (cmd a ≡ k)) ⊎ ((conf k (cmd a) ≡ false) × (proj k w ≡ b ∷ x))
          → (proj k w ≡ b ∷ x → ¬ (b ≡ blank) → (cmd b ≡ k) × First Γ b w)
          → (cmd b ≡ k) × First Γ b (a ∷ w)
      go (inl (s, p)) ih = (ap cmd (sym s) ∙ p, (w, subst (λ (c : Letter). Pick Γ b (c ∷ w) w) (sym s) here))
      go (inr (p, q)) ih =
          let (s, (r, o)) = ih q n in
          (s, (a ∷ r, there (subst (λ (j : ℕ). conf j (cmd a) ≡ false) (sym s) p) o))

  pub proj_front_rest : (k : ℕ) {b : Letter} {w r x : Word Γ} → proj k w ≡ b ∷ x → cmd b ≡ k → Pick Γ b w r
      → proj k r ≡ x
  proj_front_rest k {b} {w} {r} {x} e s p =
      let t : proj k w ≡ b ∷ proj k r = subst (λ (j : ℕ). proj j w ≡ b ∷ proj j r) s (proj_first p) in
      tail-eq_of_cons-eq (sym t ∙ e)

  -- stacks from the bottom up: z is the word put on them, its last letter at the head

  pub stack_push : (k : ℕ) (c : Letter) (z : Word Γ) → reverse (proj k (c ∷ z)) ≡ reverse (proj k z) ++ mark k c
  unfolding Stack.proj
  stack_push k c z =
      marked_turn (marked k c) (proj k z) []
      ∙ reverse_aux-eq (proj k z) (mark k c ++ [])
      ∙ ap (λ (x : Word Γ). reverse (proj k z) ++ x) (append-nil (mark k c))

  pub stack_pick : (k : ℕ) {c : Letter} {z r : Word Γ} → Pick Γ c z r
      → reverse (proj k z) ≡ reverse (proj k r) ++ mark k c
  stack_pick k {c} {z} {r} p = ap reverse (proj_along k (pick_front Γ p)) ∙ stack_push k c r

  pub stack_first : {c : Letter} {z r : Word Γ} → Pick Γ c z r
      → reverse (proj (cmd c) z) ≡ reverse (proj (cmd c) r) ++ c ∷ []
  stack_first {c} {z} {r} p = stack_pick (cmd c) p ∙ ap (λ (x : Word Γ). reverse (proj (cmd c) r) ++ x) (mark_own c)

  -- a bead that is no blank at the top is a letter that can come first in z
  pub stack_top : (k : ℕ) (z : Word Γ) {b : Letter} (x : Word Γ) → reverse (proj k z) ≡ x ++ b ∷ [] → ¬ (b ≡ blank)
      → (cmd b ≡ k) × First Γ b z
  stack_top k z {b} x e n =
      proj_front k z (sym (reverse-reverse (proj k z)) ∙ ap reverse e ∙ reverse-append x (b ∷ [])) n

  -- read from the bottom up, the stacks of z are those of the word in its own order
  pub stack_read : (k : ℕ) (z : Word Γ) → reverse (proj k z) ≡ proj k (reverse z)
  stack_read k z = sym (proj-reverse k z)
