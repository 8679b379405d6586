-- Laws of the number of rounds: the function counts what the relation counts, a part with s commands needs at most
-- s - 1, one with a single command none, the largest number of several parts is reached by one of them, and words up to
-- swaps have the same numbers.
use Prim.Native.Nat.{ℕ, zero, suc, ◌≤◌, ◌<◌, max}
use native.Mathlib.Omega.{arith}
use Rattle.std.specs.Prelude.{◌≡◌, Bool, length}
use Rattle.std.proofs.Math.Path.{refl, sym, ap, ap₂}
use Rattle.std.proofs.Common.{◌∙◌}
use mathlib.Core.List.Memᴰ
use mathlib.Core.List.{List, [], ◌∷◌, ◌++◌}
use Rattle.std.proofs.Math.Dec.{eqb}
use Rattle.theory_words.specs.All.{All}
use Rattle.theory_words.specs.Alphabet.{Alphabet, Word}
use Rattle.theory_words.specs.Trace as Trace
use Rattle.theory_words.specs.Filter.{filter}
use Rattle.theory_words.specs.FilterLaws.{filter-~}
use Rattle.theory_conjugacy.specs.Turn.{same}
use Rattle.theory_conjugacy.specs.Part.{commands, label, apexes, share, part}
use Rattle.theory_conjugacy.specs.Settle.{split, counted, counted_step, Split, stop, up, low}
use Rattle.theory_conjugacy.specs.Settle.{Rounded, quiet, round}
use Rattle.theory_conjugacy.specs.SettleLaws.{split_splits, split_unique, hit_apex}
use Rattle.theory_conjugacy.specs.HalvesLaws.{counted_along}
use Rattle.theory_conjugacy.specs.AscendingLaws.{◌∈◌, Placed, below, above, equal, placed}
use Rattle.theory_conjugacy.specs.CommandLaws.{now, commands_turns}
use Rattle.theory_conjugacy.specs.PartLaws.{part_connected, apex_occurs, label_same, apexes_same, label_apex}
use Rattle.theory_conjugacy.specs.RoundLaws.{connected_rounded, rounded_bound}
use Rattle.theory_conjugacy.specs.Rounds.{part_rounds, most_rounds, core_rounds}

module _ (Γ : Alphabet) (m : ℕ) where
  open Γ use {cmd}

  counted_quiet : (n : ℕ) (w : Word Γ) → (split Γ m [] w).0 ≡ [] → counted Γ m n w ≡ zero
  unfolding counted counted_step
  counted_quiet zero w e = refl
  counted_quiet (suc n) w e = rw e refl

  -- the number is that of the relation, counted far enough
  pub rounded_counted : {n : ℕ} {w g r : Word Γ} → Rounded Γ m n w g r → (k : ℕ) → n ≤ k → counted Γ m k w ≡ n
  unfolding counted counted_step
  rounded_counted {w = w} (quiet s) k h = counted_quiet k w (split_unique Γ m s).0
  rounded_counted (round s o) zero h = absurd (omega arith)
  rounded_counted (round s o) (suc k) h =
      let (e, f) = split_unique Γ m s in
      rw (e, f) (ap suc (rounded_counted o k (omega arith)))

  -- a part

  pub part-counted : (x : Word Γ) → m ∈ apexes Γ x → (k : ℕ) → length (commands Γ (part Γ m x)) ≤ suc k
      → counted Γ m k (part Γ m x) ≡ part_rounds Γ m x
  unfolding part_rounds
  part-counted x i k h =
      let p = part Γ m x in
      let (n, g, r, o, l) = connected_rounded Γ m p (part_connected Γ m x) (apex_occurs Γ x i) in
      rounded_counted o k (omega arith) ∙ sym (rounded_counted o (length (commands Γ p)) (omega arith))

  pub part_rounded : (x : Word Γ) → m ∈ apexes Γ x → {n : ℕ} {g r : Word Γ} → Rounded Γ m n (part Γ m x) g r
      → part_rounds Γ m x ≡ n
  unfolding part_rounds
  part_rounded x i o =
      let l = rounded_bound Γ m (part_connected Γ m x) (apex_occurs Γ x i) o in
      rounded_counted o (length (commands Γ (part Γ m x))) (omega arith)

  -- a part with s commands never needs more than s - 1 rounds
  pub part_rounds_few : (x : Word Γ) → m ∈ apexes Γ x → part_rounds Γ m x < length (commands Γ (part Γ m x))
  unfolding part_rounds
  part_rounds_few x i =
      let p = part Γ m x in
      let (n, g, r, o, l) = connected_rounded Γ m p (part_connected Γ m x) (apex_occurs Γ x i) in
      omega (arith, rounded_counted o (length (commands Γ p)) (omega arith))

  -- one command alone is settled
  split_alone : {R : List ℕ} {w p q : Word Γ} → Split Γ m R w p q → All (λ a. cmd a ≡ m) w → p ≡ []
  split_alone stop h = refl
  split_alone (up e s) h = split_alone s h.1
  split_alone {R} (low {b = b} e s) h = absurd (hit_apex Γ m R b e h.0)

  pub part_rounds_alone : (x : Word Γ) → All (λ a. cmd a ≡ m) (part Γ m x) → part_rounds Γ m x ≡ zero
  unfolding part_rounds
  part_rounds_alone x h =
      let p = part Γ m x in
      counted_quiet (length (commands Γ p)) p (split_alone (split_splits Γ m [] p) h)

module _ (Γ : Alphabet) where
  open Γ use {Letter, cmd}

  infix 20 ◌~◌
  abbrev ◌~◌ : Word Γ → Word Γ → Type 0
  ◌~◌ = Trace.◌~◌ Γ

  -- the largest number is reached, and none is larger

  most_rounds_most : {m : ℕ} (ms : List ℕ) (x : Word Γ) → m ∈ ms → part_rounds Γ m x ≤ most_rounds Γ ms x
  unfolding most_rounds
  most_rounds_most (k ∷ ms) x (Memᴰ.head e) = omega (arith, ap (λ j. part_rounds Γ j x) e)
  most_rounds_most (k ∷ ms) x (Memᴰ.tail i) = omega (arith, most_rounds_most ms x i)
  most_rounds_most {m = m} [] x x3 = elim x3 [ ]

  most_rounds_some : (k : ℕ) (ms : List ℕ) (x : Word Γ)
      → (m : ℕ) × (m ∈ k ∷ ms) × (part_rounds Γ m x ≡ most_rounds Γ (k ∷ ms) x)
  unfolding most_rounds
  most_rounds_some k [] x = (k, Memᴰ.head refl, omega arith)
  most_rounds_some k (j ∷ ms) x =
      let (m, i, e) = most_rounds_some j ms x in
      go m i e (placed (part_rounds Γ k x) (part_rounds Γ m x))
    where
      go : (m : ℕ) → m ∈ j ∷ ms → part_rounds Γ m x ≡ most_rounds Γ (j ∷ ms) x → {s t : Bool}
          → Placed (part_rounds Γ k x) (part_rounds Γ m x) s t
          → (n : ℕ) × (n ∈ k ∷ j ∷ ms) × (part_rounds Γ n x ≡ most_rounds Γ (k ∷ j ∷ ms) x)
      go m i e (below l) = (m, Memᴰ.tail i, omega arith)
      go m i e (above l) = (k, Memᴰ.head refl, omega arith)
      go m i e (equal l) = (k, Memᴰ.head refl, omega arith)

  pub core_rounds_most : {m : ℕ} (x : Word Γ) → m ∈ apexes Γ x → part_rounds Γ m x ≤ core_rounds Γ x
  unfolding core_rounds
  core_rounds_most x i = most_rounds_most (apexes Γ x) x i

  pub core_rounds_some : (a : Letter) (w : Word Γ)
      → (m : ℕ) × (m ∈ apexes Γ (a ∷ w)) × (part_rounds Γ m (a ∷ w) ≡ core_rounds Γ (a ∷ w))
  unfolding core_rounds
  core_rounds_some a w = go (apexes Γ (a ∷ w)) (label_apex Γ (now {w = w} refl))
    where
      go : (ms : List ℕ) → label Γ (a ∷ w) (cmd a) ∈ ms
          → (m : ℕ) × (m ∈ ms) × (part_rounds Γ m (a ∷ w) ≡ most_rounds Γ ms (a ∷ w))
      go [] i = absurd (Memᴰ.not-nil i)
      go (k ∷ ms) i = most_rounds_some k ms (a ∷ w)

  pub core_rounds_nil : core_rounds Γ [] ≡ zero
  unfolding core_rounds most_rounds apexes commands filter
  core_rounds_nil = refl

  -- words up to swaps

  part_along : (m : ℕ) {v w : Word Γ} → v ~ w → part Γ m v ~ part Γ m w
  unfolding part share
  part_along m {v} {w} e =
      rw (label_same Γ v w (commands_turns Γ (same e))) (filter-~ Γ (λ a. eqb (label Γ w (cmd a)) m) e)

  pub part_rounds_along : (m : ℕ) {v w : Word Γ} → v ~ w → part_rounds Γ m v ≡ part_rounds Γ m w
  unfolding part_rounds
  part_rounds_along m {v} {w} e =
      let p = part_along m e in
      rw (commands_turns Γ (same p))
      (counted_along Γ m (length (commands Γ (part Γ m w))) (part Γ m v) (part Γ m w) p)

  most_rounds_along : (ms : List ℕ) {v w : Word Γ} → v ~ w → most_rounds Γ ms v ≡ most_rounds Γ ms w
  unfolding most_rounds
  most_rounds_along [] e = refl
  most_rounds_along (m ∷ ms) e = ap₂ max (part_rounds_along m e) (most_rounds_along ms e)

  pub core_rounds_along : {v w : Word Γ} → v ~ w → core_rounds Γ v ≡ core_rounds Γ w
  unfolding core_rounds
  core_rounds_along {v} {w} e =
      rw (apexes_same Γ v w (commands_turns Γ (same e))) (most_rounds_along (apexes Γ w) e)

  pub most_append : (ms ns : List ℕ) (x : Word Γ)
      → most_rounds Γ (ms ++ ns) x ≡ max (most_rounds Γ ms x) (most_rounds Γ ns x)
  unfolding most_rounds
  most_append [] ns x = omega arith
  most_append (m ∷ ms) ns x = omega (arith, most_append ms ns x)
