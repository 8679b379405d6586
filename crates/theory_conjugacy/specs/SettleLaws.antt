-- Laws of splitting and settling: the split is one of the word up to swaps, its second half is a pyramid, the functions
-- compute the relations, and a settled word is reached by cyclings.
use Prim.Native.Nat.{ℕ, zero, suc, ◌+◌, ◌≤◌}
use Rattle.std.proofs.Common.{arith, sym, ◌∙◌, ap, true≢false, inl, inr}
use Rattle.std.specs.Prelude.{◌≡◌, Bool, ◌||◌, ◌⊎◌, length, eqb}
use Rattle.std.proofs.Math.Path.{refl}
use Rattle.std.proofs.Math.Bool.{true, false}
use mathlib.Core.List.{List, [], ◌∷◌, ◌++◌}
use borrow.Author.Tests.{eqb-true, eqb-false}
use Rattle.theory_words.specs.BoolLaws.{or_either, or_neither}
use Rattle.theory_words.specs.Alphabet.{Alphabet, Word}
use Rattle.theory_words.specs.All.{All, all_map}
use Rattle.theory_words.specs.Trace as Trace
use Rattle.theory_words.specs.Trace.{here, there, First, done, cons, next}
use Rattle.theory_words.specs.TraceLaws.{dep_sym, ~_sym, first_along, Apart, apart_pass}
use Rattle.theory_words.specs.Filter.{keep_if}
use Rattle.theory_words.specs.Normal.{meets}
use Rattle.theory_conjugacy.specs.Turn.{Turns, same, also}
use Rattle.theory_conjugacy.specs.TurnLaws.{turns_refl, turns_rotate, turns_length}
use Rattle.theory_conjugacy.specs.Settle.{raise, hit, put, split, settled, settled_step, cycled, cycled_step}
use Rattle.theory_conjugacy.specs.Settle.{Split, stop, up, low, Rounded, quiet, round}

pub raise-append : (Γ : Alphabet) (R : List ℕ) (p q : Word Γ) → raise Γ R (p ++ q) ≡ raise Γ (raise Γ R p) q
unfolding raise
raise-append Γ R [] q = refl
raise-append Γ R (b ∷ p) q = raise-append Γ (Γ.cmd b ∷ R) p q

-- three tests, the first two in either order
pub or_swap : (a b c : Bool) → (a || (b || c)) ≡ (b || (a || c))
or_swap true true c = refl
or_swap true false c = refl
or_swap false true c = refl
or_swap false false c = refl

module _ (Γ : Alphabet) (m : ℕ) where
  open Γ use {Letter, cmd, conf}

  infix 20 ◌~◌
  abbrev ◌~◌ : Word Γ → Word Γ → Type 0
  ◌~◌ = Trace.◌~◌ Γ

  -- every letter that can come first is an apex letter
  abbrev pub Pyramid : Word Γ → Type 0
  Pyramid w = (d : Letter) → First Γ d w → cmd d ≡ m

  pub pyramid_along : {v w : Word Γ} → v ~ w → Pyramid v → Pyramid w
  pyramid_along e h d f = h d (first_along Γ (~_sym Γ e) f)

  -- the test

  pub hit-cons : (k : ℕ) (R : List ℕ) (b : Letter) → hit Γ m (k ∷ R) b ≡ (conf (cmd b) k || hit Γ m R b)
  unfolding hit meets
  hit-cons k R b = or_swap (eqb (cmd b) m) (conf (cmd b) k) (meets Γ (cmd b) R)

  -- a command that b does not conflict with makes no difference
  pub hit_past : (k : ℕ) (R : List ℕ) (b : Letter) → conf (cmd b) k ≡ false → hit Γ m (k ∷ R) b ≡ hit Γ m R b
  hit_past k R b d = hit-cons k R b ∙ ap (λ (t : Bool). t || hit Γ m R b) d

  pub hit_less : (k : ℕ) (R : List ℕ) (b : Letter) → hit Γ m (k ∷ R) b ≡ false
      → (conf (cmd b) k ≡ false) × (hit Γ m R b ≡ false)
  hit_less k R b h = or_neither (conf (cmd b) k) (hit Γ m R b) (sym (hit-cons k R b) ∙ h)

  pub hit_apex : (R : List ℕ) (b : Letter) → hit Γ m R b ≡ false → ¬ (cmd b ≡ m)
  unfolding hit
  hit_apex R b h e = eqb-false (cmd b) m (or_neither (eqb (cmd b) m) (meets Γ (cmd b) R) h).0 e

  pub hit_nil : (b : Letter) → hit Γ m [] b ≡ true → cmd b ≡ m
  unfolding hit meets
  hit_nil b h = go (or_either (eqb (cmd b) m) false h)
    where
      go : (eqb (cmd b) m ≡ true) ⊎ (false ≡ true) → cmd b ≡ m
      go (inl e) = eqb-true (cmd b) m e
      go (inr e) = absurd (true≢false (sym e))

  -- the halves of a split

  -- no letter of the first half is hit
  pub split_low : {R : List ℕ} {w p q : Word Γ} → Split Γ m R w p q → All (λ a. hit Γ m R a ≡ false) p
  split_low stop = tt
  split_low {R} {p = p} (up {b = b} h s) = all_map (λ a k. (hit_less (cmd b) R a k).1) p (split_low s)
  split_low (low h s) = (h, split_low s)

  -- it is free of the apex
  pub split_free : {R : List ℕ} {w p q : Word Γ} → Split Γ m R w p q → All (λ a. ¬ (cmd a ≡ m)) p
  split_free {R} {p = p} s = all_map (hit_apex R) p (split_low s)

  -- a raised command is independent of the first half
  pub split_apart : (b : Letter) {R : List ℕ} {w p q : Word Γ} → Split Γ m (cmd b ∷ R) w p q → Apart Γ b p
  split_apart b {R} {p = p} s = go p (split_low s)
    where
      go : (x : Word Γ) → All (λ a. hit Γ m (cmd b ∷ R) a ≡ false) x → Apart Γ b x
      go [] h = tt
      go (a ∷ x) h = (dep_sym Γ {a = a} {b = b} (hit_less (cmd b) R a h.0).0, go x h.1)

  pub split_~ : {R : List ℕ} {w p q : Word Γ} → Split Γ m R w p q → w ~ (p ++ q)
  split_~ stop = done
  split_~ {p = p} (up {b = b} {q = q} h s) = next (cons (split_~ s)) (apart_pass Γ b p (split_apart b s) q)
  split_~ (low h s) = cons (split_~ s)

  pub split_length : {R : List ℕ} {w p q : Word Γ} → Split Γ m R w p q → length p + length q ≡ length w
  split_length stop = refl
  split_length (up h s) = omega (arith, split_length s)
  split_length (low h s) = omega (arith, split_length s)

  -- what holds for each letter of the word holds for each of the first half
  pub split_all : (P : Letter → Type 0) {R : List ℕ} {w p q : Word Γ} → Split Γ m R w p q → All P w → All P p
  split_all P stop h = tt
  split_all P (up i s) h = split_all P s h.1
  split_all P (low i s) h = (h.0, split_all P s h.1)

  -- a letter that can come first in the second half is hit
  pub split_high : {R : List ℕ} {w p q : Word Γ} {d : Letter} → Split Γ m R w p q → First Γ d q → hit Γ m R d ≡ true
  split_high stop (r, o) = elim o [ ]
  split_high (up h s) (r, here) = h
  split_high {R} {d = d} (up {b = b} h s) (r, there {r = t} k o) = sym (hit_past (cmd b) R d k) ∙ split_high s (t, o)
  split_high (low h s) f = split_high s f

  pub split_pyramid : {w p q : Word Γ} → Split Γ m [] w p q → Pyramid q
  split_pyramid s d f = hit_nil d (split_high s f)

  -- what a round leaves to the next

  -- the second half splits as itself
  pub split_upper : {R : List ℕ} {w p q : Word Γ} → Split Γ m R w p q → Split Γ m R q [] q
  split_upper stop = stop
  split_upper (up h s) = up h (split_upper s)
  split_upper (low h s) = split_upper s

  -- what follows is split with the commands raised before it. So of the second half and then the first, the next round
  -- has only the first to split.
  pub split_append : {R : List ℕ} {w p q v x y : Word Γ} → Split Γ m R w p q → Split Γ m (raise Γ R q) v x y
      → Split Γ m R (w ++ v) (p ++ x) (q ++ y)
  unfolding raise
  split_append stop t = t
  split_append (up h s) t = up h (split_append s t)
  split_append (low h s) t = low h (split_append s t)

  -- where no letter is low, the second half is the word
  pub split_whole : {R : List ℕ} {w q : Word Γ} → Split Γ m R w [] q → q ≡ w
  split_whole stop = refl
  split_whole (up {b = b} h s) = ap (λ (x : Word Γ). b ∷ x) (split_whole s)

  -- the function computes the relation, which has one result

  pub split_splits : (R : List ℕ) (w : Word Γ) → Split Γ m R w (split Γ m R w).0 (split Γ m R w).1
  unfolding split put keep_if
  split_splits R [] = stop
  split_splits R (b ∷ w) = go (hit Γ m R b) refl (split_splits (keep_if (hit Γ m R b) (cmd b) R) w)
    where
      go : (t : Bool) → hit Γ m R b ≡ t
          → (let s = split Γ m (keep_if t (cmd b) R) w in Split Γ m (keep_if t (cmd b) R) w s.0 s.1)
          → (let s = put Γ m t b (split Γ m (keep_if t (cmd b) R) w) in Split Γ m R (b ∷ w) s.0 s.1)
      go true h s = up h s
      go false h s = low h s

  pub split_unique : {R : List ℕ} {w p q : Word Γ} → Split Γ m R w p q
      → ((split Γ m R w).0 ≡ p) × ((split Γ m R w).1 ≡ q)
  unfolding split put keep_if
  split_unique stop = (refl, refl)
  split_unique (up {b = b} h s) = let (e, f) = split_unique s in (rw h e, rw h (ap (λ (x : Word Γ). b ∷ x) f))
  split_unique (low {b = b} h s) = let (e, f) = split_unique s in (rw h (ap (λ (x : Word Γ). b ∷ x) e), rw h f)

  split_same : {R : List ℕ} {w p q x y : Word Γ} → Split Γ m R w p q → Split Γ m R w x y → (p ≡ x) × (q ≡ y)
  split_same s t =
      let (e, f) = split_unique s in
      let (g, h) = split_unique t in
      (sym e ∙ g, sym f ∙ h)

  -- rounds

  -- what the functions compute, given rounds enough
  pub rounded_settled : {n : ℕ} {w g r : Word Γ} → Rounded Γ m n w g r → (k : ℕ) → n ≤ k
      → (settled Γ m k w ≡ r) × (cycled Γ m k w ≡ g)
  unfolding settled settled_step cycled cycled_step
  rounded_settled (quiet s) zero h = (refl, refl)
  rounded_settled (quiet s) (suc k) h = let (e, f) = split_unique s in (rw e refl, rw e refl)
  rounded_settled (round s o) zero h = absurd (omega arith)
  rounded_settled (round {b = b} {p = p} s o) (suc k) h =
      let (e, f) = split_unique s in
      let (x, y) = rounded_settled o k (omega arith) in
      (rw (e, f) x, rw (e, f) (ap (λ (z : Word Γ). b ∷ p ++ z) y))

  -- none where nothing is low, and else one and more behind it

  pub rounded_none : {n : ℕ} {w g r q : Word Γ} → Rounded Γ m n w g r → Split Γ m [] w [] q
      → (n ≡ 0) × (g ≡ []) × (r ≡ q)
  rounded_none (quiet s) t = (refl, refl, sym (split_whole t))
  rounded_none (round s o) t = absurd (omega (arith, ap length (split_same s t).0))

  pub rounded_next : {n : ℕ} {w g r p q : Word Γ} → Rounded Γ m n w g r → Split Γ m [] w p q → ¬ (p ≡ [])
      → (k : ℕ) × (h : Word Γ) × (n ≡ suc k) × (g ≡ p ++ h) × Rounded Γ m k (q ++ p) h r
  rounded_next (quiet s) t n = absurd (n (split_same t s).0)
  rounded_next (round {n = k} {g = h} s o) t n = let (e, f) = split_same t s in rw (e, f) (k, h, refl, refl, o)

  pub rounded_turns : {n : ℕ} {w g r : Word Γ} → Rounded Γ m n w g r → Turns Γ w r
  rounded_turns {w = w} (quiet s) = turns_refl Γ w
  rounded_turns (round {b = b} {p = p} {q = q} s o) =
      also (same (split_~ s)) (also (turns_rotate Γ (b ∷ p) q) (rounded_turns o))

  pub rounded_as_long : {n : ℕ} {w g r : Word Γ} → Rounded Γ m n w g r → length r ≡ length w
  rounded_as_long o = sym (turns_length Γ (rounded_turns o))
