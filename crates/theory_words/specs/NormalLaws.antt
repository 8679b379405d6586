-- Laws of the normal form: it is the one word of its effect that is reduced and ordered, words of one effect have one
-- normal form, and it is the first of the shortest words of its effect.
use Prim.Native.Nat.{ℕ, zero, suc, ◌<◌, ◌≤◌}
use Rattle.std.proofs.Common.{le_refl, le_trans, arith, sym, ◌∙◌, ap}
use Rattle.std.proofs.Math.Decide.{dec_lt}
use Rattle.std.specs.Prelude.{◌≡◌, ◌⊎◌, ◌↔◌}
use Rattle.std.proofs.Math.Path.{refl, subst}
use Rattle.std.proofs.Math.Bool.{Bool, true, false, not}
use Rattle.std.proofs.Math.Logic.{inl, inr}
use mathlib.Core.List.{List, [], ◌∷◌, ◌++◌, Memᴰ}
use Rattle.std.proofs.Math.Option.{some}
use Rattle.std.proofs.Math.ListN.{length}
use Rattle.std.proofs.Math.Dec.{ltb}
use borrow.Author.Tests.{ltb-true, ltb-false, not-true}
use Rattle.theory_words.specs.BoolLaws.{or_neither}
use Rattle.theory_words.specs.All.{All, all_mem}
use Rattle.theory_words.specs.Alphabet.{Alphabet, Word}
use Rattle.theory_words.specs.Trace as Trace
use Rattle.theory_words.specs.Trace.{Pick, here, there, First, done, cons, next}
use Rattle.theory_words.specs.TraceLaws.{~_refl, ~_sym, ~-length, first_along, cons_cancel, first_eq}
use Rattle.theory_words.specs.TraceLaws.{pick_front, pick_after, pick_length, Splits, early, late, pick_split}
use Rattle.theory_words.specs.Filter.{keep_if}
use Rattle.theory_words.specs.FilterLaws.{keep_if_cases, keep_if_tail, keep_if_head}
use Rattle.theory_words.specs.Normal.{Ordered, Smaller, at, on, nf, meets, firsts, least}
use Rattle.theory_words.specs.Normal.{least_step, lex, lex_step, rest}
use Rattle.theory_words.specs.ReduceLaws.{pick_without, reduced_along, reduced_~}
use Rattle.theory_words.specs.ReduceLaws.{reduce-~, reduce_reduced, reduce-≈, reduce_least, shortest_~}
use Rattle.theory_words.specs.Group as Group
use Rattle.theory_words.specs.Group.{Reduced, then, back}
use Rattle.theory_words.specs.GroupLaws.{~→≈, ≈_refl}
use Rattle.theory_words.specs.Reduce.{without, reduce}

module _ (Γ : Alphabet) where
  open Γ use {Letter, cmd, conf}

  infix 20 ◌~◌
  abbrev ◌~◌ : Word Γ → Word Γ → Type 0
  ◌~◌ = Trace.◌~◌ Γ

  infix 20 ◌≈◌
  abbrev ◌≈◌ : Word Γ → Word Γ → Type 0
  ◌≈◌ = Group.◌≈◌ Γ

  -- no letter that can come first in w has a smaller command than c
  abbrev pub Least : Letter → Word Γ → Type 0
  Least c w = (d : Letter) → First Γ d w → cmd c ≤ cmd d

  -- words that agree up to swaps and in the command of the head agree in the head
  pub heads_same : {a b : Letter} {u v : Word Γ} → (a ∷ u) ~ (b ∷ v) → cmd a ≡ cmd b → (a ≡ b) × (u ~ v)
  heads_same {a} {b} {u} {v} e k = (s, cons_cancel Γ (subst (λ (x : Letter). (a ∷ u) ~ (x ∷ v)) (sym s) e))
    where
      s : a ≡ b
      s = first_eq Γ {w = a ∷ u} (u, here) (first_along Γ (~_sym Γ e) (v, here)) k

  pub ordered_unique : (u v : Word Γ) → u ~ v → Ordered Γ u → Ordered Γ v → u ≡ v
  ordered_unique [] [] e o p = refl
  ordered_unique [] (b ∷ v) e o p = absurd (omega (arith, ~-length Γ e))
  ordered_unique (a ∷ u) [] e o p = absurd (omega (arith, ~-length Γ e))
  ordered_unique (a ∷ u) (b ∷ v) e o p =
      let le : cmd a ≤ cmd b = o.0 b (first_along Γ (~_sym Γ e) (v, here)) in
      let ge : cmd b ≤ cmd a = p.0 a (first_along Γ e (u, here)) in
      let (s, t) = heads_same e (omega arith) in
      let r : u ≡ v = ordered_unique u v t o.1 p.1 in
      cc

  -- an ordered word is the first of the words that swaps lead to
  pub ordered_first : (x v : Word Γ) → x ~ v → Ordered Γ x → (v ≡ x) ⊎ Smaller Γ x v
  ordered_first [] [] e o = inl refl
  ordered_first [] (b ∷ v) e o = absurd (omega (arith, ~-length Γ e))
  ordered_first (a ∷ x) [] e o = absurd (omega (arith, ~-length Γ e))
  ordered_first (a ∷ x) (b ∷ v) e o = go (dec_lt (cmd a) (cmd b)) (ordered_first x v)
    where
      le : cmd a ≤ cmd b
      le = o.0 b (first_along Γ (~_sym Γ e) (v, here))

      on_same : a ≡ b → (v ≡ x) ⊎ Smaller Γ x v → (b ∷ v ≡ a ∷ x) ⊎ Smaller Γ (a ∷ x) (b ∷ v)
      on_same s (inl p) = inl (cc)
      on_same s (inr p) = inr (subst (λ (c : Letter). Smaller Γ (a ∷ x) (c ∷ v)) s (on p))

      go : Dec (cmd a < cmd b) → (x ~ v → Ordered Γ x → (v ≡ x) ⊎ Smaller Γ x v)
          → (b ∷ v ≡ a ∷ x) ⊎ Smaller Γ (a ∷ x) (b ∷ v)
      go (yes l) ih = inr (at l)
      go (no n) ih =
          let (s, t) = heads_same e (omega (arith, le)) in
          on_same s (ih t o.1)

  -- parts of an ordered word

  pub ordered_prefix : (p q : Word Γ) → Ordered Γ (p ++ q) → Ordered Γ p
  ordered_prefix [] q o = tt
  ordered_prefix (a ∷ p) q o = (λ d f. o.0 d (f.0 ++ q, pick_after Γ f.1 q), ordered_prefix p q o.1)

  pub ordered_suffix : (p q : Word Γ) → Ordered Γ (p ++ q) → Ordered Γ q
  ordered_suffix [] q o = o
  ordered_suffix (a ∷ p) q o = ordered_suffix p q o.1

  pub ordered_join : (m : ℕ) (p q : Word Γ) → Ordered Γ p → Ordered Γ q → All (λ a. cmd a ≤ m) p
      → ((d : Letter) → First Γ d q → m ≤ cmd d) → Ordered Γ (p ++ q)
  ordered_join m [] q o k h l = k
  ordered_join m (a ∷ p) q o k h l =
      (λ d f. below (pick_split Γ (a ∷ p) q f.1), ordered_join m p q o.1 k h.1 l)
    where
      below : {d : Letter} {r : Word Γ} → Splits Γ d (a ∷ p) q r → cmd a ≤ cmd d
      below {d} (early s f e) = o.0 d (s, f)
      below {d} (late s g f e) = le_trans h.0 (l d (s, f))

  -- the letters that can come first, as `firsts` finds them

  pub firsts_can : {c : Letter} (js : List ℕ) (w : Word Γ) → Memᴰ c (firsts Γ js w)
      → First Γ c w × (meets Γ (cmd c) js ≡ false)
  unfolding firsts meets
  firsts_can {c} js (a ∷ w) m =
      go (keep_if_cases (not (meets Γ (cmd a) js)) a (firsts Γ (cmd a ∷ js) w) m) (firsts_can (cmd a ∷ js) w)
    where
      go : ((c ≡ a) × (not (meets Γ (cmd a) js) ≡ true)) ⊎ Memᴰ c (firsts Γ (cmd a ∷ js) w)
          → (Memᴰ c (firsts Γ (cmd a ∷ js) w) → First Γ c w × (meets Γ (cmd c) (cmd a ∷ js) ≡ false))
          → First Γ c (a ∷ w) × (meets Γ (cmd c) js ≡ false)
      go (inl (e, t)) ih =
          ((w, subst (λ (x : Letter). Pick Γ c (x ∷ w) w) e here), rw e (not-true (meets Γ (cmd a) js) t))
      go (inr k) ih =
          let ((r, p), t) = ih k in
          let (d, u) = or_neither (conf (cmd c) (cmd a)) (meets Γ (cmd c) js) t in
          ((a ∷ r, there d p), u)
  firsts_can {c = c} js [] m = elim m [ ]

  pub firsts_has : {c : Letter} {w r : Word Γ} → Pick Γ c w r → (js : List ℕ) → meets Γ (cmd c) js ≡ false
      → Memᴰ c (firsts Γ js w)
  unfolding firsts meets
  firsts_has {c} (here {w = w}) js t = keep_if_head c (firsts Γ (cmd c ∷ js) w) refl (ap not t)
  firsts_has (there {b = b} {w = w} d p) js t =
      let js' : List ℕ = cmd b ∷ js in
      keep_if_tail (not (meets Γ (cmd b) js)) b (firsts Γ js' w) (firsts_has p js' (rw (d, t)))

  -- `firsts [] w` holds exactly the letters that can come first in w
  pub firsts_exact : (c : Letter) (w : Word Γ) → Memᴰ c (firsts Γ [] w) ↔ First Γ c w
  unfolding meets
  firsts_exact c w = (λ m. (firsts_can [] w m).0, λ f. firsts_has f.1 [] refl)

  -- the smallest of some letters

  least_step_is : (t : Bool) (a b : Letter) → (least_step Γ t a b ≡ a) ⊎ (least_step Γ t a b ≡ b)
  unfolding least_step
  least_step_is true a b = inl refl
  least_step_is false a b = inr refl

  least_step_le : (t : Bool) (a b : Letter) → ltb (cmd b) (cmd a) ≡ t
      → (cmd (least_step Γ t b a) ≤ cmd a) × (cmd (least_step Γ t b a) ≤ cmd b)
  unfolding least_step
  least_step_le true a b e = omega (arith, ltb-true (cmd b) (cmd a) e)
  least_step_le false a b e = omega (arith, ltb-false (cmd b) (cmd a) e)

  pub least_le : (a : Letter) (w : Word Γ) → All (λ d. cmd (least Γ a w) ≤ cmd d) (a ∷ w)
  unfolding least
  least_le a [] = (le_refl (cmd a), tt)
  least_le a (b ∷ w) =
      let (p, q) = least_step_le (ltb (cmd b) (cmd a)) a b refl in
      let (h, k) = least_le (least_step Γ (ltb (cmd b) (cmd a)) b a) w in
      (le_trans h p, (le_trans h q, k))

  pub least_mem : (a : Letter) (w : Word Γ) → Memᴰ (least Γ a w) (a ∷ w)
  unfolding least
  least_mem a [] = Memᴰ.head refl
  least_mem a (b ∷ w) =
      let t : Bool = ltb (cmd b) (cmd a) in
      go (least_step_is t b a) (least_mem (least_step Γ t b a) w)
    where
      go : {s l : Letter} → (s ≡ b) ⊎ (s ≡ a) → Memᴰ l (s ∷ w) → Memᴰ l (a ∷ b ∷ w)
      go (inl p) (Memᴰ.head e) = Memᴰ.tail (Memᴰ.head (e ∙ p))
      go (inr p) (Memᴰ.head e) = Memᴰ.head (e ∙ p)
      go (inl p) (Memᴰ.tail m) = Memᴰ.tail (Memᴰ.tail m)
      go (inr p) (Memᴰ.tail m) = Memᴰ.tail (Memᴰ.tail m)

  -- the letter that `lex` takes: it can come first, and no smaller one can
  pub least_first : (b : Letter) (w : Word Γ)
      → First Γ (least Γ b (firsts Γ (cmd b ∷ []) w)) (b ∷ w) × Least (least Γ b (firsts Γ (cmd b ∷ []) w)) (b ∷ w)
  unfolding firsts keep_if meets
  least_first b w =
      let l : Least c (b ∷ w) = λ d f. all_mem P (b ∷ bs) (least_le b bs) ((firsts_exact d (b ∷ w)).1 f) in
      ((firsts_exact c (b ∷ w)).0 (least_mem b bs), l)
    where
      bs : Word Γ
      bs = firsts Γ (cmd b ∷ []) w

      c : Letter
      c = least Γ b bs

      P : Letter → Type 0
      P d = cmd c ≤ cmd d

  -- x holds the letters of w, each time the smallest that can come first among those left
  pub data Sorts : Word Γ → Word Γ → Type 0 where
    sorted : Sorts [] []
    sort : {c : Letter} {w r x : Word Γ} → Pick Γ c w r → Least c w → Sorts r x → Sorts w (c ∷ x)

  pub sorts_~ : {w x : Word Γ} → Sorts w x → w ~ x
  sorts_~ sorted = done
  sorts_~ (sort p l s) = next (pick_front Γ p) (cons (sorts_~ s))

  pub sorts_ordered : {w x : Word Γ} → Sorts w x → Ordered Γ x
  sorts_ordered sorted = tt
  sorts_ordered (sort {c = c} {w = w} {x = x} p l s) =
      let e : (c ∷ x) ~ w = next (cons (~_sym Γ (sorts_~ s))) (~_sym Γ (pick_front Γ p)) in
      (λ d f. l d (first_along Γ e f), sorts_ordered s)

  pub lex_sorts : (n : ℕ) (w : Word Γ) → length w ≡ n → Sorts w (lex Γ n w)
  unfolding lex lex_step rest firsts keep_if meets
  lex_sorts zero [] e = sorted
  lex_sorts zero (b ∷ w) e = absurd (omega arith)
  lex_sorts (suc n) [] e = absurd (omega arith)
  lex_sorts (suc n) (b ∷ w) e =
      let c : Letter = least Γ b (firsts Γ (cmd b ∷ []) w) in
      let ((r, p), l) = least_first b w in
      let q : without Γ c (b ∷ w) ≡ some r = pick_without Γ p in
      let k : length r ≡ n = omega (arith, pick_length Γ p) in
      let t : Sorts r (lex Γ n (rest Γ (without Γ c (b ∷ w)))) = rw q (lex_sorts n r k) in
      sort p l t

  pub lex-~ : (w : Word Γ) → lex Γ (length w) w ~ w
  lex-~ w = ~_sym Γ (sorts_~ (lex_sorts (length w) w refl))

  pub lex_ordered : (w : Word Γ) → Ordered Γ (lex Γ (length w) w)
  lex_ordered w = sorts_ordered (lex_sorts (length w) w refl)

  -- what sorts w is what `lex` makes of any word that swaps lead to
  pub sorts_lex : {u v x : Word Γ} → u ~ v → Sorts v x → lex Γ (length u) u ≡ x
  sorts_lex {u} {v} {x} e s =
      ordered_unique (lex Γ (length u) u) x (next (lex-~ u) (next e (sorts_~ s))) (lex_ordered u) (sorts_ordered s)

  -- the smallest letter that can come first, then the rest in order
  pub lex_pick : {c : Letter} {w r : Word Γ} → Pick Γ c w r → Least c w
      → lex Γ (length w) w ≡ c ∷ lex Γ (length r) r
  lex_pick {w = w} {r = r} p m = sorts_lex (~_refl Γ w) (sort p m (lex_sorts (length r) r refl))

  pub lex_along : {u v : Word Γ} → u ~ v → lex Γ (length u) u ≡ lex Γ (length v) v
  lex_along {u} {v} e = sorts_lex e (lex_sorts (length v) v refl)

  -- the normal form

  pub nf-~ : (w : Word Γ) → nf Γ w ~ reduce Γ w
  unfolding nf
  nf-~ w = lex-~ (reduce Γ w)

  pub nf-≈ : (w : Word Γ) → nf Γ w ≈ w
  nf-≈ w = then (~→≈ Γ (nf-~ w)) (reduce-≈ Γ w)

  pub nf_ordered : (w : Word Γ) → Ordered Γ (nf Γ w)
  unfolding nf
  nf_ordered w = lex_ordered (reduce Γ w)

  pub nf_reduced : (w : Word Γ) → Reduced Γ (nf Γ w)
  nf_reduced w = reduced_along Γ (~_sym Γ (nf-~ w)) (reduce_reduced Γ w)

  pub nf_complete : {u v : Word Γ} → u ≈ v → nf Γ u ≡ nf Γ v
  unfolding nf
  nf_complete e = lex_along (reduce-~ Γ e)

  pub nf_sound : (u v : Word Γ) → nf Γ u ≡ nf Γ v → u ≈ v
  nf_sound u v e = then (back (nf-≈ u)) (subst (λ (x : Word Γ). x ≈ v) (sym e) (nf-≈ v))

  -- the only reduced and ordered word of its effect
  pub nf_unique : (x w : Word Γ) → Reduced Γ x → Ordered Γ x → x ≈ w → x ≡ nf Γ w
  nf_unique x w r o e =
      ordered_unique x (nf Γ w) (reduced_~ Γ x (nf Γ w) r (nf_reduced w) (then e (back (nf-≈ w)))) o (nf_ordered w)

  pub nf_fixed : (x : Word Γ) → Reduced Γ x → Ordered Γ x → nf Γ x ≡ x
  nf_fixed x r o = sym (nf_unique x x r o (≈_refl Γ x))

  -- what sorts a reduced word is the normal form
  pub sorts_nf : {w v x : Word Γ} → Sorts v x → Reduced Γ v → v ≈ w → x ≡ nf Γ w
  sorts_nf {w} {v} {x} s r e =
      nf_unique x w (reduced_along Γ (sorts_~ s) r) (sorts_ordered s) (then (~→≈ Γ (~_sym Γ (sorts_~ s))) e)

  pub nf-length : (w : Word Γ) → length (nf Γ w) ≡ length (reduce Γ w)
  nf-length w = ~-length Γ (nf-~ w)

  pub nf_least : (v w : Word Γ) → v ≈ w → length (nf Γ w) ≤ length v
  nf_least v w e = rw (nf-length w) (reduce_least Γ v w e)

  -- among the shortest words of one effect the normal form is the first
  pub nf_first : (v w : Word Γ) → v ≈ w → length v ≡ length (nf Γ w) → (v ≡ nf Γ w) ⊎ Smaller Γ (nf Γ w) v
  nf_first v w e l =
      let s : v ~ reduce Γ w = shortest_~ Γ v w e (omega (arith, nf-length w)) in
      ordered_first (nf Γ w) v (next (nf-~ w) (~_sym Γ s)) (nf_ordered w)
