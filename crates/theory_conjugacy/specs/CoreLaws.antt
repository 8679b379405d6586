-- Laws of the core: what is computed, that pairs may be taken off in any order, and that cores are cyclically reduced.
use Prim.Native.Nat.{ℕ, zero, suc, ◌+◌, ◌*◌, ◌≤◌}
use Rattle.std.specs.Prelude.{◌≡◌, false}
use Rattle.std.proofs.Common.{sym, ◌∙◌, ap, length-append, arith}
use Rattle.std.proofs.Math.Path.{subst}
use mathlib.Core.List.{[], ◌∷◌, ◌++◌, append-nil, append_assoc}
use Rattle.std.proofs.Math.Option.{Option, none, some}
use Rattle.std.proofs.Math.ListN.{length}
use Rattle.theory_words.specs.Alphabet.{Alphabet, Word, dep}
use Rattle.theory_words.specs.All.{All, all_along, all_left, all_right}
use Rattle.theory_words.specs.LetterLaws.{all_reduce}
use Rattle.theory_words.specs.Trace as Trace
use Rattle.theory_words.specs.Trace.{Pick, here, there, First, done, cons, swap, next}
use Rattle.theory_words.specs.Group as Group
use Rattle.theory_words.specs.Group.{Reduced, undo, conj, then, back}
use Rattle.theory_words.specs.Reduce.{reduce}
use Rattle.theory_words.specs.TraceLaws.{~_refl, ~_sym, ~-length, ~_after, pick_front, pick_along, pick_length}
use Rattle.theory_words.specs.TraceLaws.{pick_nil, pick_unique, pick_diamond, dep_sym}
use Rattle.theory_words.specs.GroupLaws.{~→≈, ≈_of_≡, ≈_after, ≈_before, dep-inv_right, undo_onto}
use Rattle.theory_words.specs.GroupLaws.{pick_undo, first_undo, conj_of, undo_left}
use Rattle.theory_words.specs.ReduceLaws.{Sees, seen, unseen, sees, reduce-~, reduce-≈, reduce_reduced}
use Rattle.theory_words.specs.ReduceLaws.{reduced_along, reduced_prefix, reduced_suffix}
use Rattle.theory_conjugacy.specs.Turn.{Tight, Round}
use Rattle.theory_conjugacy.specs.TurnLaws.{tight_along, tight_round}
use Rattle.theory_conjugacy.specs.WordLaws.{~_of_≡, inv_cancel, last_cancel, pick_before, last_diamond}
use Rattle.theory_conjugacy.specs.Core.{Cores, bare, peel, undone, without_last, between, pair_step, pair}
use Rattle.theory_conjugacy.specs.Core.{peels_step, peels, lead, core}

module _ (Γ : Alphabet) where
  open Γ use {Letter, inv}

  infix 20 ◌~◌ ◌≈◌
  abbrev ◌~◌ : Word Γ → Word Γ → Type 0
  ◌~◌ = Trace.◌~◌ Γ

  abbrev ◌≈◌ : Word Γ → Word Γ → Type 0
  ◌≈◌ = Group.◌≈◌ Γ

  -- taking c off the front of x and its undo off the end leaves s
  pub data Peels (c : Letter) (x s : Word Γ) : Type 0 where
    off : {r : Word Γ} → Pick Γ c x r → r ~ (s ++ inv c ∷ []) → Peels c x s

  pub peels_length : {c : Letter} {x s : Word Γ} → Peels c x s → length x ≡ length s + 2
  peels_length {c} {s = s} (off p e) = omega (arith, pick_length Γ p, ~-length Γ e, length-append s (inv c ∷ []))

  pub peels_unique : {c : Letter} {x s t : Word Γ} → Peels c x s → Peels c x t → s ~ t
  peels_unique {c} {s = s} {t = t} (off {r = r} p e) (off q f) =
      let d : r ~ (t ++ inv c ∷ []) = rw (pick_unique Γ p q) f in
      last_cancel Γ s t (inv c) (next (~_sym Γ e) d)

  -- c and d can come first in x, and their undos come last, each in what the other leaves
  pub peels_diamond : {c d : Letter} {x s t : Word Γ} → ¬ (c ≡ d) → Peels c x s → Peels d x t
      → (dep Γ c d ≡ false) × ((q : Word Γ) × Peels d s q × Peels c t q)
  peels_diamond {c} {d} {x} {s} {t} n (off p e) (off p' e') =
      let (i, (y, o, o')) = pick_diamond Γ n p p' in
      let (u, l, f) = pick_before Γ s (dep-inv_right Γ d c ∙ dep_sym Γ {a = c} {b = d} i) e o in
      let (u', l', f') = pick_before Γ t (dep-inv_right Γ c d ∙ i) e' o' in
      let (q, a, b) = last_diamond Γ u u' (λ j. n (inv_cancel Γ j)) (next (~_sym Γ f) f') in
      (i, (q, off l a, off l' b))

  pub cores_along : {x y g z : Word Γ} → x ~ y → Cores Γ x g z → Cores Γ y g z
  cores_along d (bare t e) = bare (tight_along Γ d t) (next (~_sym Γ d) e)
  cores_along d (peel p e k) = let (s, q, f) = pick_along Γ d p in peel q (next (~_sym Γ f) e) k

  pub peels_cores : {c : Letter} {x s g z : Word Γ} → Peels c x s → Cores Γ s g z → Cores Γ x (c ∷ g) z
  peels_cores (off p e) k = peel p e k

  -- taking any one pair off first
  pub cores_after : {c : Letter} {x g z s : Word Γ} → Cores Γ x g z → Peels c x s
      → (h : Word Γ) × Cores Γ s h z × (g ~ (c ∷ h))
  cores_after {c} {s = s} (bare t e) (off {r = r} p f) = absurd (t c r p (first_undo Γ s f))
  cores_after {c} {s = s} (peel {c = d} {x = x} {g = g} q f k) p = elim (Γ.same c d) [
    | yes e ↦
        let o : Peels d x s = subst (λ (b : Letter). Peels b x s) e p in
        (g, cores_along (peels_unique (off q f) o) k, ~_of_≡ Γ (ap (λ (b : Letter). b ∷ g) (sym e)))
    | no n ↦
        let (i, (y, o, m)) = peels_diamond n p (off q f) in
        let (h, l, j) = cores_after k m in
        (d ∷ h, peels_cores o l, next (cons j) (swap (dep_sym Γ {a = c} {b = d} i)))
  ]

  -- a word has one core, and its pairs are one word, up to swaps
  pub cores_unique : {x y g h z t : Word Γ} → x ~ y → Cores Γ x g z → Cores Γ y h t → (z ~ t) × (g ~ h)
  cores_unique d (bare k e) (bare l f) = (next (~_sym Γ e) (next d f), done)
  cores_unique d (bare k e) (peel {c = c} {r = r} {s = s} p f l) =
      absurd (tight_along Γ d k c r p (first_undo Γ s f))
  cores_unique d (peel p e k) l =
      let (h, m, i) = cores_after (cores_along (~_sym Γ d) l) (off p e) in
      let (j, o) = cores_unique (~_refl Γ _) k m in
      (j, next (cons o) (~_sym Γ i))

  -- what `between` answers
  data Between (c : Letter) (x : Word Γ) : Option (Word Γ) → Type 0 where
    pairs : {s : Word Γ} → Peels c x s → Between c x (some s)
    stays : ((r : Word Γ) → Pick Γ c x r → ¬ First Γ c (undo Γ r [])) → Between c x none

  betweens : (c : Letter) (x : Word Γ) → Between c x (between Γ c x)
  unfolding between without_last undone
  betweens c x = front (sees Γ c x)
    where
      end : {r : Word Γ} {o : Option (Word Γ)} → Pick Γ c x r → Sees Γ c (undo Γ r []) o → Between c x (undone Γ o)
      end {r} p (seen q) = pairs (off p (pick_undo Γ r q))
      end {r} p (unseen n) =
          stays (λ s q. subst (λ (y : Word Γ). ¬ First Γ c (undo Γ y [])) (pick_unique Γ p q) n)

      front : {o : Option (Word Γ)} → Sees Γ c x o → Between c x (without_last Γ c o)
      front (seen {r = r} p) = end p (sees Γ c (undo Γ r []))
      front (unseen n) = stays (λ r p. absurd (n (r, p)))

  -- what `pair` answers
  data Found (x cs : Word Γ) : Option (Letter × Word Γ) → Type 0 where
    found : {p : Letter × Word Γ} → Peels p.0 x p.1 → Found x cs (some p)
    nowhere : ((c : Letter) (t : Word Γ) → Pick Γ c cs t → (r : Word Γ) → Pick Γ c x r → ¬ First Γ c (undo Γ r []))
        → Found x cs none

  finds : (x cs : Word Γ) → Found x cs (pair Γ x cs)
  unfolding pair pair_step
  finds x [] = nowhere (λ c t p. absurd (pick_nil Γ p))
  finds x (c ∷ cs) = go (betweens c x) (finds x cs)
    where
      either : {x cs : Word Γ} {c d : Letter} {t : Word Γ} → Pick Γ d (c ∷ cs) t
          → ((r : Word Γ) → Pick Γ c x r → ¬ First Γ c (undo Γ r []))
          → ((d : Letter) (t : Word Γ) → Pick Γ d cs t → (r : Word Γ) → Pick Γ d x r → ¬ First Γ d (undo Γ r []))
          → (r : Word Γ) → Pick Γ d x r → ¬ First Γ d (undo Γ r [])
      either here n m = n
      either {d = d} (there {r = t} k p) n m = m d t p

      go : {o : Option (Word Γ)} {q : Option (Letter × Word Γ)} → Between c x o → Found x cs q
          → Found x (c ∷ cs) (pair_step Γ c o q)
      go (pairs k) f = found k
      go (stays n) (found k) = found k
      go (stays n) (nowhere m) = nowhere (λ d t p. either p n m)

  tight_nil : (x : Word Γ) → length x ≤ 0 → Tight Γ x
  tight_nil [] h = λ c r p. absurd (pick_nil Γ p)
  tight_nil (a ∷ x) h = absurd (omega arith)

  -- `peels` computes the relation
  peels_core : (n : ℕ) (x : Word Γ) → length x ≤ n → Cores Γ x (peels Γ n x).0 (peels Γ n x).1
  unfolding peels peels_step
  peels_core zero x h = bare (tight_nil x h) (~_refl Γ x)
  peels_core (suc n) x h = go (finds x x) (peels_core n)
    where
      go : {o : Option (Letter × Word Γ)} → Found x x o
          → ((y : Word Γ) → length y ≤ n → Cores Γ y (peels Γ n y).0 (peels Γ n y).1)
          → Cores Γ x (peels_step Γ x o (peels Γ n)).0 (peels_step Γ x o (peels Γ n)).1
      go (found {p = p} k) again = peels_cores k (again p.1 (omega (arith, peels_length k)))
      go (nowhere m) again = bare (λ c r p. m c r p r p) (~_refl Γ x)

  pub core_cores : (v : Word Γ) → Cores Γ (reduce Γ v) (lead Γ v) (core Γ v)
  unfolding lead core
  core_cores v = peels_core (length (reduce Γ v)) (reduce Γ v) (omega arith)

  -- equal words have one core
  pub core-~ : (v w : Word Γ) → v ≈ w → core Γ v ~ core Γ w
  core-~ v w e = (cores_unique (reduce-~ Γ e) (core_cores v) (core_cores w)).0

  -- however pairs are taken off
  pub cores_core : (v : Word Γ) {x g z : Word Γ} → x ~ reduce Γ v → Cores Γ x g z → (z ~ core Γ v) × (g ~ lead Γ v)
  cores_core v e k = cores_unique e k (core_cores v)

  regroup : (g z : Word Γ) (c : Letter) → (g ++ (z ++ undo Γ g [])) ++ inv c ∷ [] ≡ g ++ (z ++ undo Γ g (inv c ∷ []))
  regroup g z c = rw (undo_onto inv g (inv c ∷ []), append_assoc g, append_assoc z)

  -- the word is the letters taken off, the core, and the letters undone
  pub cores_product : {x g z : Word Γ} → Cores Γ x g z → x ~ (g ++ (z ++ undo Γ g []))
  cores_product {z = z} (bare t e) = next e (~_of_≡ Γ (sym (append-nil z)))
  cores_product (peel {c = c} {s = s} {g = g} {z = z} p e k) =
      next (pick_front Γ p) (cons (next e (next (~_after Γ (cores_product k) (inv c ∷ [])) (~_of_≡ Γ (regroup g z c)))))

  pub cores_length : {x g z : Word Γ} → Cores Γ x g z → length x ≡ 2 * length g + length z
  cores_length (bare t e) = omega (arith, ~-length Γ e)
  cores_length (peel {s = s} p e k) = omega (arith, peels_length {s = s} (off p e), cores_length k)

  pub cores_tight : {x g z : Word Γ} → Cores Γ x g z → Tight Γ z
  cores_tight (bare t e) = tight_along Γ e t
  cores_tight (peel p e k) = cores_tight k

  pub cores_reduced : {x g z : Word Γ} → Cores Γ x g z → Reduced Γ x → Reduced Γ z
  cores_reduced {g = g} {z = z} k r =
      let p : Reduced Γ (z ++ undo Γ g []) = reduced_suffix Γ g _ (reduced_along Γ (cores_product k) r) in
      reduced_prefix Γ z (undo Γ g []) p

  pub core_reduced : (v : Word Γ) → Reduced Γ (core Γ v)
  core_reduced v = cores_reduced (core_cores v) (reduce_reduced Γ v)

  pub core_tight : (v : Word Γ) → Tight Γ (core Γ v)
  core_tight v = cores_tight (core_cores v)

  -- cores are cyclically reduced
  pub core_round : (v : Word Γ) → Round Γ (core Γ v)
  core_round v = tight_round Γ (core Γ v) (core_reduced v) (core_tight v)

  pub core-length : (v : Word Γ) → length (reduce Γ v) ≡ 2 * length (lead Γ v) + length (core Γ v)
  core-length v = cores_length (core_cores v)

  pub core_product : (v : Word Γ) → v ≈ (lead Γ v ++ (core Γ v ++ undo Γ (lead Γ v) []))
  core_product v = then (back (reduce-≈ Γ v)) (~→≈ Γ (cores_product (core_cores v)))

  conj_strip : (g v z : Word Γ) → v ≈ (g ++ (z ++ undo Γ g [])) → conj Γ g v ≈ z
  conj_strip g v z e =
      let d : ((g ++ (z ++ undo Γ g [])) ++ g) ≈ (g ++ (z ++ (undo Γ g [] ++ g))) =
      ≈_of_≡ Γ (rw (append_assoc g, append_assoc z)) in
      let f : (z ++ (undo Γ g [] ++ g)) ≈ z = then (≈_before Γ z (undo_left Γ g)) (≈_of_≡ Γ (append-nil z)) in
      conj_of Γ g v (then (≈_after Γ e g) (then d (≈_before Γ g f)))

  -- the letters taken off join a word to its core
  pub core-conj : (v : Word Γ) → conj Γ (lead Γ v) v ≈ core Γ v
  core-conj v = conj_strip (lead Γ v) v (core Γ v) (core_product v)

  -- the letters of the core, and those taken off, are letters of the word
  pub core_all : (P : Letter → Type 0) (v : Word Γ) → All P v → All P (lead Γ v) × All P (core Γ v)
  core_all P v h =
      let g = lead Γ v in
      let z = core Γ v in
      let k : All P (g ++ (z ++ undo Γ g [])) = all_along Γ P (cores_product (core_cores v)) (all_reduce Γ P v h) in
      (all_left P g (z ++ undo Γ g []) k, all_left P z (undo Γ g []) (all_right P g (z ++ undo Γ g []) k))
