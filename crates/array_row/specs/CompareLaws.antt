-- Comparing two rows of bytes: a number that gathers the bits in which they differ is 0 as long as they agree.
use Rattle.std.specs.Prelude.{ℕ, ◌+◌, ◌<◌, ◌≡◌, refl, true, false, List, ◌↔◌, eqb, length, get_or, take}
use Rattle.std.proofs.Common.{sym, ◌∙◌, ap, arith, add-one, take-suc, take-take, get_or-take, eqb-true, eq-eqb}
use Rattle.std.proofs.lemmas.Bool.{false≢true}
use Rattle.std.specs.Int.Bits.{bit_or, bit_xor, xor_add_and, xor_self}
use Rattle.std.proofs.lemmas.Nat.{and_le_l, and_le_r}
use Rattle.input_plan.specs.FaultLaws.{or_parts}

xor_same : (a b : ℕ) → bit_xor a b ≡ 0 → a ≡ b
xor_same a b e = omega (arith, xor_add_and a b, and_le_l a b, and_le_r a b)

pub record Compared (v w : List ℕ) (differ j : ℕ) : Type 0 where
  pub same : differ ≡ 0 → take j v ≡ take j w
  pub none : take j v ≡ take j w → differ ≡ 0

pub compared_start : (v w : List ℕ) → Compared v w 0 0
compared_start v w = record { same = λ e. refl; none = λ e. refl }

-- one byte more agrees if the bytes before it do and it does
take_more : (v w : List ℕ) (j : ℕ) → j < length v → j < length w → take j v ≡ take j w → get_or v j 0 ≡ get_or w j 0
    → take (j + 1) v ≡ take (j + 1) w
take_more v w j h k e f = rw (add-one, take-suc v j 0 h, take-suc w j 0 k, e, f)

take_less : (v w : List ℕ) (j : ℕ) → take (j + 1) v ≡ take (j + 1) w
    → (take j v ≡ take j w) × (get_or v j 0 ≡ get_or w j 0)
take_less v w j e = (
  sym (take-take j (j + 1) v (omega arith)) ∙ ap (take j) e ∙ take-take j (j + 1) w (omega arith),
  sym (get_or-take (j + 1) v j 0 (omega arith)) ∙ ap (λ l. get_or l j 0) e ∙ get_or-take (j + 1) w j 0 (omega arith),
)

module _ {v w : List ℕ} {differ j : ℕ} (c : Compared v w differ j) where
  pub compared_again : j < length v → j < length w
      → Compared v w (bit_or differ (bit_xor (get_or v j 0) (get_or w j 0))) (j + 1)
  compared_again h k = record {
    same = λ e.
        let (l, r) = or_parts differ (bit_xor (get_or v j 0) (get_or w j 0)) e in
        take_more v w j h k (c.same l) (xor_same (get_or v j 0) (get_or w j 0) r);
    none = λ e.
        let (l, r) = take_less v w j e in
        rw (c.none l, r, xor_self (get_or w j 0));
  }

  pub compared_end : (eqb differ 0 ≡ true) ↔ (take j v ≡ take j w)
  compared_end = (λ e. c.same (eqb-true differ 0 e), λ e. eq-eqb differ 0 (c.none e))

pub lengths_differ : {v w : List ℕ} → ¬ (length v ≡ length w) → (false ≡ true) ↔ (v ≡ w)
lengths_differ n = (λ e. absurd (false≢true e), λ e. absurd (n (ap length e)))
