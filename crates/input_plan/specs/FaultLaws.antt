-- The bytes that do not pass, looked for with no way out of the loop: what gathers the tests is false as long as every
-- byte passes.
use Rattle.std.specs.Prelude.{ℕ, ◌+◌, ◌-◌, ◌%◌, ◌<◌, ◌≤◌, ◌≡◌, refl, Bool, true, false, not, ◌||◌, List, ◌↔◌, eqb, ltb, length, get_or}
use Rattle.std.proofs.Common.{sym, ◌∙◌, ap, arith, below_more, le-leb, lt-ltb, le-ltb, eq-eqb}
use Rattle.std.proofs.lemmas.Bool.{not-true, not-false, lt-leb}
use Rattle.theory_words.specs.BoolLaws.{or_neither}
use Rattle.std.proofs.Math.Decide.{dec_lt}
use Rattle.std.specs.Int.Bits.{bit_or, or_add_and}
use Rattle.std.proofs.lemmas.Nat.{and_le_l, and_le_r}
use Rattle.spec.specs.Plan.{passes, Passing}
use Rattle.spec_laws.specs.PlanLaws.{passes_low, passes_mid, passes_high, passing_at, passing_by}

-- what a byte is above 128
fold_low : (b : ℕ) → b < 128 → b % 128 ≡ b
fold_low b h = omega arith

fold_high : (b : ℕ) → 128 ≤ b → b < 256 → b % 128 ≡ b - 128
fold_high b h l = omega arith

-- byte 128 and a byte above N, or above 128 + N, fail; the others pass
module _ (n b : ℕ) (m : n < 128) where
  pub fails_128 : b ≡ 128 → eqb b 128 ≡ not (passes n b)
  fails_128 e = rw (eq-eqb b 128 e, passes_mid n b (omega arith) (omega arith))

  pub fails_other : b < 256 → (b ≡ 128 → ⊥) → ltb n (b % 128) ≡ not (passes n b)
  fails_other l d = go (dec_lt b 128) (dec_lt n (b % 128))
    where
      go : Dec (b < 128) → Dec (n < b % 128) → ltb n (b % 128) ≡ not (passes n b)
      go (yes s) (yes h) =
          rw (lt-ltb n (b % 128) h, passes_mid n b (omega (arith, fold_low b s)) (omega arith))
      go (yes s) (no h) = rw (le-ltb n (b % 128) (omega arith), passes_low n b (omega (arith, fold_low b s)))
      go (no s) (yes h) =
          let e : b % 128 ≡ b - 128 = fold_high b (omega arith) l in
          rw (lt-ltb n (b % 128) h, passes_high n b (omega arith) (omega arith), lt-leb (b - 128) n (omega arith))
      go (no s) (no h) =
          let e : b % 128 ≡ b - 128 = fold_high b (omega arith) l in
          rw (
            le-ltb n (b % 128) (omega arith),
            passes_high n b (omega arith) (omega arith),
            le-leb (b - 128) n (omega arith),
          )

pub or_parts : (a b : ℕ) → bit_or a b ≡ 0 → (a ≡ 0) × (b ≡ 0)
or_parts a b e = (
  omega (arith, or_add_and a b, and_le_l a b, and_le_r a b),
  omega (arith, or_add_and a b, and_le_l a b, and_le_r a b),
)

-- whether a byte below j fails
pub record Gathered (n : ℕ) (v : List ℕ) (failed : Bool) (j : ℕ) : Type 0 where
  pub pass : failed ≡ false → (i : ℕ) → i < j → passes n (get_or v i 0) ≡ true
  pub none : ((i : ℕ) → i < j → passes n (get_or v i 0) ≡ true) → failed ≡ false

pub gathered_start : (n : ℕ) (v : List ℕ) → Gathered n v false 0
gathered_start n v = record { pass = λ e i l. absurd (omega arith); none = λ f. refl }

module _ {n : ℕ} {v : List ℕ} {failed : Bool} {j : ℕ} (g : Gathered n v failed j) where
  pub gathered_again : {f : Bool} → f ≡ not (passes n (get_or v j 0)) → Gathered n v (failed || f) (j + 1)
  gathered_again {f} t = record {
    pass = λ e.
        let o = or_neither failed f e in
        below_more _ j (g.pass o.0) (not-false _ (sym t ∙ o.1));
    none = λ h. rw (g.none (λ i l. h i (omega arith)), t, h j (omega arith));
  }

  pub gathered_end : length v ≡ j → (not failed ≡ true) ↔ Passing n v
  gathered_end e = (
    λ t. passing_by n v (λ i l. g.pass (not-true failed t) i (omega arith)),
    λ h. ap not (g.none (λ i l. passing_at n v h i (omega arith))),
  )
