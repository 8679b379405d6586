-- Laws of equality in the group, of undoing a word and of conjugating by one.
use Rattle.std.specs.Prelude.{◌+◌, ◌≡◌, refl, length}
use Rattle.std.proofs.Common.{sym, ◌∙◌, subst, arith}
use Rattle.std.proofs.Math.Path.{ap}
use mathlib.Core.List.{List, [], ◌∷◌, ◌++◌, reverse, reverse_aux, append-nil, append_assoc}
use Rattle.theory_words.specs.Alphabet.{Alphabet, Word, dep}
use Rattle.theory_words.specs.Trace as Trace
use Rattle.theory_words.specs.Trace.{Pick, here, First, done, cons, swap, next}
use Rattle.theory_words.specs.Group as Group
use Rattle.theory_words.specs.Group.{undo_by, undo, conj, empty, keep, trade, drop, then, back}
use Rattle.theory_words.specs.TraceLaws.{dep_sym, ~_refl, ~_sym, pick_front, first_along, Apart}

-- undoing, as lists
module _ {A : Type 0} (f : A → A) where
  pub undo_after : (u x y : List A) → undo_by f u (x ++ y) ≡ undo_by f u x ++ y
  undo_after [] x y = refl
  undo_after (a ∷ u) x y = undo_after u (f a ∷ x) y

  pub undo_onto : (u v : List A) → undo_by f u v ≡ undo_by f u [] ++ v
  undo_onto u v = undo_after u [] v

  pub undo-append : (u v w : List A) → undo_by f (u ++ v) w ≡ undo_by f v (undo_by f u w)
  undo-append [] v w = refl
  undo-append (a ∷ u) v w = undo-append u v (f a ∷ w)

  pub undo_length : (u v : List A) → length (undo_by f u v) ≡ length u + length v
  undo_length [] v = omega arith
  undo_length (a ∷ u) v = omega (arith, undo_length u (f a ∷ v))

module _ (Γ : Alphabet) where
  open Γ use {Letter, inv, cmd}

  infix 20 ◌~◌ ◌≈◌
  abbrev ◌~◌ : Word Γ → Word Γ → Type 0
  ◌~◌ = Trace.◌~◌ Γ

  abbrev ◌≈◌ : Word Γ → Word Γ → Type 0
  ◌≈◌ = Group.◌≈◌ Γ

  -- what a letter depends on, its undo depends on
  pub dep-inv : (a b : Letter) → dep Γ (inv a) b ≡ dep Γ a b
  dep-inv a b = ap (λ k. Γ.conf k (cmd b)) (Γ.cmd-inv a)

  pub dep-inv_right : (a b : Letter) → dep Γ a (inv b) ≡ dep Γ a b
  dep-inv_right a b = ap (λ k. Γ.conf (cmd a) k) (Γ.cmd-inv b)

  pub ≈_refl : (w : Word Γ) → w ≈ w
  ≈_refl [] = empty
  ≈_refl (a ∷ w) = keep (≈_refl w)

  pub ≈_of_≡ : {v w : Word Γ} → v ≡ w → v ≈ w
  ≈_of_≡ {v} e = subst (λ (x : Word Γ). v ≈ x) e (≈_refl v)

  pub ~→≈ : {v w : Word Γ} → v ~ w → v ≈ w
  ~→≈ done = empty
  ~→≈ (cons e) = keep (~→≈ e)
  ~→≈ (swap d) = trade d
  ~→≈ (next e f) = then (~→≈ e) (~→≈ f)

  -- drop, the undo first
  pub drop_back : (a : Letter) (w : Word Γ) → (inv a ∷ a ∷ w) ≈ w
  drop_back a w = subst (λ (b : Letter). (inv a ∷ b ∷ w) ≈ w) (Γ.inv-inv a) drop

  pub ≈_before : (u : Word Γ) {v w : Word Γ} → v ≈ w → (u ++ v) ≈ (u ++ w)
  ≈_before [] e = e
  ≈_before (a ∷ u) e = keep (≈_before u e)

  pub ≈_after : {v w : Word Γ} → v ≈ w → (u : Word Γ) → (v ++ u) ≈ (w ++ u)
  ≈_after empty u = ≈_refl u
  ≈_after (keep e) u = keep (≈_after e u)
  ≈_after (trade d) u = trade d
  ≈_after drop u = drop
  ≈_after (then e f) u = then (≈_after e u) (≈_after f u)
  ≈_after (back e) u = back (≈_after e u)

  pub ≈-append : {v w x y : Word Γ} → v ≈ w → x ≈ y → (v ++ x) ≈ (w ++ y)
  ≈-append {w = w} {x = x} e f = then (≈_after e x) (≈_before w f)

  pub ≈_reverse_onto : (v : Word Γ) {x y : Word Γ} → x ≈ y → reverse_aux v x ≈ reverse_aux v y
  ≈_reverse_onto [] e = e
  ≈_reverse_onto (a ∷ v) e = ≈_reverse_onto v (keep e)

  pub ≈_reverse_aux : {v w : Word Γ} → v ≈ w → (x : Word Γ) → reverse_aux v x ≈ reverse_aux w x
  ≈_reverse_aux empty x = ≈_refl x
  ≈_reverse_aux (keep {a = a} e) x = ≈_reverse_aux e (a ∷ x)
  ≈_reverse_aux (trade {a = a} {b = b} {w = w} d) x = ≈_reverse_onto w (trade (dep_sym Γ {a = a} {b = b} d))
  ≈_reverse_aux (drop {a = a} {w = w}) x = ≈_reverse_onto w (drop_back a x)
  ≈_reverse_aux (then e f) x = then (≈_reverse_aux e x) (≈_reverse_aux f x)
  ≈_reverse_aux (back e) x = back (≈_reverse_aux e x)

  pub ≈-reverse : {v w : Word Γ} → v ≈ w → reverse v ≈ reverse w
  ≈-reverse e = ≈_reverse_aux e []

  -- undoing twice
  pub undo-undo : (u v w : Word Γ) → undo Γ (undo Γ u v) w ≡ undo Γ v (u ++ w)
  undo-undo [] v w = refl
  undo-undo (a ∷ u) v w = undo-undo u (inv a ∷ v) w ∙ ap (λ (b : Letter). undo Γ v (b ∷ u ++ w)) (Γ.inv-inv a)

  pub undo_twice : (u : Word Γ) → undo Γ (undo Γ u []) [] ≡ u
  undo_twice u = undo-undo u [] [] ∙ append-nil u

  -- undoing respects swaps and equality, on both sides
  pub ~-undo_onto : (u : Word Γ) {v w : Word Γ} → v ~ w → undo Γ u v ~ undo Γ u w
  ~-undo_onto [] e = e
  ~-undo_onto (a ∷ u) e = ~-undo_onto u (cons e)

  pub ~-undo : {v w : Word Γ} → v ~ w → (x : Word Γ) → undo Γ v x ~ undo Γ w x
  ~-undo done x = ~_refl Γ x
  ~-undo (cons {a = a} e) x = ~-undo e (inv a ∷ x)
  ~-undo (swap {a = a} {b = b} {w = w} d) x =
      ~-undo_onto w (swap (dep-inv b (inv a) ∙ dep-inv_right b a ∙ dep_sym Γ {a = a} {b = b} d))
  ~-undo (next e f) x = next (~-undo e x) (~-undo f x)

  pub ≈-undo_onto : (u : Word Γ) {v w : Word Γ} → v ≈ w → undo Γ u v ≈ undo Γ u w
  ≈-undo_onto [] e = e
  ≈-undo_onto (a ∷ u) e = ≈-undo_onto u (keep e)

  pub ≈-undo : {v w : Word Γ} → v ≈ w → (x : Word Γ) → undo Γ v x ≈ undo Γ w x
  ≈-undo empty x = ≈_refl x
  ≈-undo (keep {a = a} e) x = ≈-undo e (inv a ∷ x)
  ≈-undo (trade {a = a} {b = b} {w = w} d) x =
      ≈-undo_onto w (trade (dep-inv b (inv a) ∙ dep-inv_right b a ∙ dep_sym Γ {a = a} {b = b} d))
  ≈-undo (drop {a = a} {w = w}) x = ≈-undo_onto w (drop_back (inv a) x)
  ≈-undo (then e f) x = then (≈-undo e x) (≈-undo f x)
  ≈-undo (back e) x = back (≈-undo e x)

  -- a word and the same undone cancel
  pub undo_cancel : (u v : Word Γ) → undo Γ u (u ++ v) ≈ v
  undo_cancel [] v = ≈_refl v
  undo_cancel (a ∷ u) v = then (≈-undo_onto u (drop_back a (u ++ v))) (undo_cancel u v)

  pub cancel_undo : (u v : Word Γ) → (u ++ undo Γ u v) ≈ v
  cancel_undo [] v = ≈_refl v
  cancel_undo (a ∷ u) v = then (keep (cancel_undo u (inv a ∷ v))) drop

  pub undo_right : (u : Word Γ) → (u ++ undo Γ u []) ≈ []
  undo_right u = cancel_undo u []

  pub undo_left : (u : Word Γ) → (undo Γ u [] ++ u) ≈ []
  undo_left u = subst (λ (x : Word Γ). x ≈ []) (undo_onto inv u u)
      (subst (λ (x : Word Γ). undo Γ u x ≈ []) (append-nil u) (undo_cancel u []))

  -- conjugating
  pub conj_nil : (x : Word Γ) → conj Γ [] x ≡ x
  unfolding conj
  conj_nil x = append-nil x

  pub conj-append : (u v x : Word Γ) → conj Γ (u ++ v) x ≡ conj Γ v (conj Γ u x)
  unfolding conj
  conj-append u v x =
      undo-append inv u v (x ++ (u ++ v))
      ∙ ap (undo Γ v) (ap (undo Γ u) (sym (append_assoc x u v)) ∙ undo_after inv u (x ++ u) v)

  pub ≈-conj : (u : Word Γ) {x y : Word Γ} → x ≈ y → conj Γ u x ≈ conj Γ u y
  unfolding conj
  ≈-conj u e = ≈-undo_onto u (≈_after e u)

  pub ≈-conj_by : {u v : Word Γ} → u ≈ v → (x : Word Γ) → conj Γ u x ≈ conj Γ v x
  unfolding conj
  ≈-conj_by {u} {v} e x = then (≈-undo e (x ++ u)) (≈-undo_onto v (≈_before x e))

  -- conjugating by u is undone by conjugating by u undone
  pub conj_back : (u x : Word Γ) → conj Γ (undo Γ u []) (conj Γ u x) ≈ x
  conj_back u x = then (≈_of_≡ (sym (conj-append u (undo Γ u []) x)))
      (then (≈-conj_by (undo_right u) x) (≈_of_≡ (conj_nil x)))

  pub conj-undo : (u : Word Γ) {x y : Word Γ} → conj Γ u x ≈ y → x ≈ conj Γ (undo Γ u []) y
  conj-undo u {x} {y} e = then (back (conj_back u x)) (≈-conj (undo Γ u []) e)

  -- conj u x ≈ y says that x u = u y
  pub conj_of : (u x : Word Γ) {y : Word Γ} → (x ++ u) ≈ (u ++ y) → conj Γ u x ≈ y
  unfolding conj
  conj_of u x {y} e = then (≈-undo_onto u e) (undo_cancel u y)

  pub conj_swap : (u x : Word Γ) {y : Word Γ} → conj Γ u x ≈ y → (x ++ u) ≈ (u ++ y)
  unfolding conj
  conj_swap u x {y} e = then (back (cancel_undo u (x ++ u))) (≈_before u e)

  pub conj_product : (u x y : Word Γ) → conj Γ u (x ++ y) ≈ (conj Γ u x ++ conj Γ u y)
  conj_product u x y = conj_of u (x ++ y)
      (then (≈_of_≡ (append_assoc x y u))
      (then (≈_before x (conj_swap u y (≈_refl _)))
      (then (≈_of_≡ (sym (append_assoc x u (conj Γ u y))))
      (then (≈_after (conj_swap u x (≈_refl _)) (conj Γ u y))
      (≈_of_≡ (append_assoc u (conj Γ u x) (conj Γ u y)))))))

  pub apart_undo : (c : Letter) (u v : Word Γ) → Apart Γ c u → Apart Γ c v → Apart Γ c (undo Γ u v)
  apart_undo c [] v k l = l
  apart_undo c (b ∷ u) v k l = apart_undo c u (inv b ∷ v) k.1 (dep-inv_right c b ∙ k.0, l)

  -- inv c can come last in p if c can come first in p undone, and the other way round
  pub pick_undo : {c : Letter} (p : Word Γ) {r : Word Γ} → Pick Γ c (undo Γ p []) r
      → p ~ (undo Γ r [] ++ inv c ∷ [])
  pick_undo {c} p {r} o =
      subst (λ (x : Word Γ). x ~ (undo Γ r [] ++ inv c ∷ [])) (undo_twice p)
      (subst (λ (x : Word Γ). undo Γ (undo Γ p []) [] ~ x) (undo_onto inv r (inv c ∷ [])) (~-undo (pick_front Γ o) []))

  pub first_undo : {c : Letter} {p : Word Γ} (r : Word Γ) → p ~ (r ++ inv c ∷ []) → First Γ c (undo Γ p [])
  first_undo {c} {p} r e = first_along Γ (~_sym Γ (~-undo e []))
      (subst (First Γ c) (sym (undo-append inv r (inv c ∷ []) []))
      (subst (λ (b : Letter). First Γ c (b ∷ undo Γ r [])) (sym (Γ.inv-inv c)) (undo Γ r [], here)))
