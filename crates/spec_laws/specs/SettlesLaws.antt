-- The rounds that settle a plan of commands, as the manual words them, are those of the theory, and so is their number.
use Prim.Native.Nat.{ℕ, zero, suc, ◌≤◌}
use Rattle.std.proofs.Common.{arith, ◌∙◌}
use Rattle.std.specs.Prelude.{◌≡◌}
use Rattle.std.proofs.Math.Path.{refl, ap}
use mathlib.Core.List.{List, [], ◌∷◌, ◌++◌}
use Rattle.theory_words.specs.All.{all_along, all_append, all_left, all_right}
use Rattle.theory_words.specs.Trace as Trace
use Rattle.theory_words.specs.Trace.{here}
use Rattle.theory_words.specs.TraceLaws.{~_sym, pick_front, first_along}
use Rattle.theory_conjugacy.specs.Settle.{counted, counted_step, Split, Rounded, quiet, round}
use Rattle.theory_conjugacy.specs.SettleLaws.{split_~, split_free, split_pyramid}
use Rattle.theory_conjugacy.specs.HalvesLaws.{counted_round}
use Rattle.spec.specs.Catalogue.{commands}
use Rattle.spec.specs.Step.{Command}
use Rattle.spec.specs.Letters.{alphabet}
use Rattle.spec.specs.Rounds.{Halves, Settles, settled}
use Rattle.spec.specs.Rounds as rounds
use Rattle.spec_laws.specs.LettersLaws.{Commands}
use Rattle.spec_laws.specs.SwapLaws.{words_swaps, swaps_words}

module _ (c : List ℕ) where
  infix 20 ◌~◌
  abbrev ◌~◌ : List ℕ → List ℕ → Type 0
  ◌~◌ = Trace.◌~◌ (alphabet c)

  -- the halves of a split
  halves : {m : ℕ} {y p q : List ℕ} → Commands (commands c) y → Split (alphabet c) m [] y p q → Halves c m y p q
  halves {m} h s =
      record {
        parted = words_swaps c (split_~ (alphabet c) m s) h;
        below = split_free (alphabet c) m s;
        above = λ a z e. split_pyramid (alphabet c) m s a
            (first_along (alphabet c) (~_sym (alphabet c) (swaps_words c e)) (z, here));
      }

  -- what a round makes of a word of commands is one
  turned : {y : List ℕ} (p q : List ℕ) → y ~ (p ++ q) → Commands (commands c) y → Commands (commands c) (q ++ p)
  turned p q e h =
      let k = all_along (alphabet c) (Command c) e h in
      all_append (Command c) q p (all_right (Command c) p q k) (all_left (Command c) p q k)

  pub rounded_settles : {m n : ℕ} {y g r : List ℕ} → Commands (commands c) y → Rounded (alphabet c) m n y g r
      → Settles c m n y
  rounded_settles h (quiet s) = settled (halves h s)
  rounded_settles {m} h (round {b = b} {p = p} {q = q} s o) =
      rounds.round (halves h s) (rounded_settles (turned (b ∷ p) q (split_~ (alphabet c) m s) h) o)

  -- a round, counted
  halves_counted : {m : ℕ} {y : List ℕ} (p q : List ℕ) (k : ℕ) → Commands (commands c) y → Halves c m y p q
      → counted (alphabet c) m (suc k) y ≡ counted_step (alphabet c) m p q (counted (alphabet c) m k)
  halves_counted {m} p q k h d =
      let e = swaps_words c d.parted in
      let i = all_left (Command c) q p (turned p q e h) in
      counted_round (alphabet c) m k p q e d.below
      (λ a f. d.above a f.0 (words_swaps c (pick_front (alphabet c) f.1) i))

  pub settles_counted : {m n : ℕ} {y : List ℕ} → Commands (commands c) y → Settles c m n y → (k : ℕ) → n ≤ k
      → counted (alphabet c) m k y ≡ n
  unfolding counted counted_step
  settles_counted h (settled d) zero l = refl
  settles_counted h (settled {p1 = q} d) (suc k) l = halves_counted [] q k h d
  settles_counted h (rounds.round d s) zero l = absurd (omega arith)
  settles_counted h (rounds.round {b = b} {p0 = p} {p1 = q} d s) (suc k) l =
      halves_counted (b ∷ p) q k h d
      ∙ ap suc (settles_counted (turned (b ∷ p) q (swaps_words c d.parted) h) s k (omega arith))
