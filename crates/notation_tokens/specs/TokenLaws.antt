-- The token of a byte, from what is known of the byte.
use Rattle.std.specs.Prelude.{ℕ, ◌-◌, ◌≤◌, ◌<◌, ◌≡◌}
use Rattle.std.proofs.Common.{arith}
use Rattle.std.proofs.Math.Path.{ap}
use borrow.Author.Tests.{ne_eqb, le-leb, lt-leb}
use Rattle.spec.specs.Notation.{token_of, blank, opening, closing, minus, digit, other}

module _ (b : ℕ) where
  pub token_blank : b ≡ 32 → token_of b ≡ blank
  unfolding token_of
  token_blank e = ap token_of e

  pub token_opening : b ≡ 40 → token_of b ≡ opening
  unfolding token_of
  token_opening e = ap token_of e

  pub token_closing : b ≡ 41 → token_of b ≡ closing
  unfolding token_of
  token_closing e = ap token_of e

  pub token_minus : b ≡ 45 → token_of b ≡ minus
  unfolding token_of
  token_minus e = ap token_of e

  pub token_low : (b ≡ 32 → ⊥) → (b ≡ 40 → ⊥) → (b ≡ 41 → ⊥) → (b ≡ 45 → ⊥) → b < 48 → token_of b ≡ other
  unfolding token_of
  token_low n o c m l = simp (ne_eqb b 32 n, ne_eqb b 40 o, ne_eqb b 41 c, ne_eqb b 45 m, lt-leb 48 b l)

  pub token_high : 57 < b → token_of b ≡ other
  unfolding token_of
  token_high h =
      simp (
        ne_eqb b 32 (omega arith),
        ne_eqb b 40 (omega arith),
        ne_eqb b 41 (omega arith),
        ne_eqb b 45 (omega arith),
        le-leb 48 b (omega arith),
        lt-leb b 57 h,
      )

  pub token_digit : 48 ≤ b → b ≤ 57 → token_of b ≡ digit (b - 48)
  unfolding token_of
  token_digit l h =
      simp (
        ne_eqb b 32 (omega arith),
        ne_eqb b 40 (omega arith),
        ne_eqb b 41 (omega arith),
        ne_eqb b 45 (omega arith),
        le-leb 48 b l,
        le-leb b 57 h,
      )
