-- The digits that the kit's io::decimal writes are a number in decimal.
use Rattle.std.specs.Prelude.{ℕ, zero, suc, ◌+◌, ◌-◌, ◌/◌, ◌%◌, ◌^◌, ◌≤◌, ◌<◌, ◌≡◌, List, [], ◌∷◌, ◌++◌}
use Rattle.std.proofs.Common.{arith, mod-lt, mod-eq_of_lt, subst, lt-ltb}
use Rattle.std.proofs.Math.Nat.{pow-succ', pow-le-pow_right}
use Rattle.io.specs.Digits.{hex_digit_ascii, last_digits, IsDigitCount}
use Rattle.spec.specs.Listing.{Decimal, digit, more}

glyph_code : (d : ℕ) → d < 10 → hex_digit_ascii d ≡ 48 + d
glyph_code d h = rw (lt-ltb d 10 h)

less_one : (k : ℕ) → suc k - 1 ≡ k
less_one k = omega arith

pub digits_decimal : (k n : ℕ) → IsDigitCount 10 1 n k → Decimal n (last_digits 10 k n)
digits_decimal zero n f = absurd (omega (arith, f.0))
digits_decimal (suc zero) n f =
    let h : n < 10 = f.1 in
    rw (mod-eq_of_lt h, glyph_code n h) (digit h)
digits_decimal (suc (suc j)) n f =
    let low : 10 ^ suc j ≤ n = subst (λ i. 10 ^ i ≤ n) (less_one (suc j)) (f.2 (omega arith)) in
    let pos : 1 ≤ 10 ^ j = pow-le-pow_right {n = 10} (omega arith) {i = 0} {j = j} (omega arith) in
    let last : n % 10 < 10 = mod-lt n (omega arith) in
    let fewer : IsDigitCount 10 1 (n / 10) (suc j) = (
      omega arith,
      omega (arith, f.1, pow-succ' 10 (suc j)),
      λ h. rw (less_one j) (omega (arith, low, pow-succ' 10 j)),
    ) in
    let first : Decimal (n / 10) (last_digits 10 (suc j) (n / 10)) = digits_decimal (suc j) (n / 10) fewer in
    let t : List ℕ = last_digits 10 (suc j) (n / 10) in
    rw (glyph_code (n % 10) last)
    (subst (λ m. Decimal m (t ++ (48 + n % 10) ∷ [])) (omega arith)
    (more (omega (arith, low, pos, pow-succ' 10 j)) last first))
