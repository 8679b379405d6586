-- Laws of bits: those of `&` and `|` and of a power of two, that a number is known by its bits, and of numbers gathered
-- as bits: at most one number gathers them, and it fits, and two share no bit exactly if no index is gathered in both.
use Rattle.std.specs.Prelude.{ℕ, zero, suc, ◌+◌, ◌*◌, ◌/◌, ◌%◌, ◌^◌, ◌<◌, min, max, ◌≡◌, refl, List, ◌↔◌, ◌⊎◌}
use Rattle.std.proofs.Common.{arith, one-add, sym, ap, ◌∙◌, inl, inr, pow_pos, shr-shr}
use Rattle.std.proofs.Math.Nat.{div-eq_of_lt}
use Rattle.std.proofs.Math.Arith.{bin_ind}
use Rattle.std.specs.Int.Bits.{bit_and, bit_or, and_step, or_step, shifted_half, shifted_even}
use Rattle.std.proofs.lemmas.Nat.{and_shr, or_shr}
use Rattle.spec.specs.Bits.{Bit, Within, Gathered}

-- bit k of n as a number
abbrev digit : ℕ → ℕ → ℕ
digit n k = n / 2 ^ k % 2

small : (n : ℕ) → n % 2 < 2
small n = omega arith

last : (x q d : ℕ) → x ≡ q * 2 + d → d < 2 → x % 2 ≡ d
last x q d e l = omega arith

-- an operation on numbers that works on each bit apart
module _ (op f : ℕ → ℕ → ℕ) (shr : (a b k : ℕ) → op a b / 2 ^ k ≡ op (a / 2 ^ k) (b / 2 ^ k))
    (step : (a b : ℕ) → op a b ≡ op (a / 2) (b / 2) * 2 + f (a % 2) (b % 2))
    (below : (x y : ℕ) → x < 2 → y < 2 → f x y < 2) where
  op-digit : (a b k : ℕ) → digit (op a b) k ≡ f (digit a k) (digit b k)
  op-digit a b k =
      let x = a / 2 ^ k in
      let y = b / 2 ^ k in
      ap (λ (n : ℕ). n % 2) (shr a b k)
      ∙ last (op x y) (op (x / 2) (y / 2)) (f (x % 2) (y % 2)) (step x y) (below (x % 2) (y % 2) (small x) (small y))

min_one : (x y : ℕ) → x < 2 → y < 2 → (min x y ≡ 1) ↔ ((x ≡ 1) × (y ≡ 1))
min_one x y l m = (λ e. (omega arith, omega arith), λ e. omega (arith, e.0, e.1))

max_one : (x y : ℕ) → x < 2 → y < 2 → (max x y ≡ 1) ↔ ((x ≡ 1) ⊎ (y ≡ 1))
max_one x y l m = (to x l, from)
  where
    to : (x : ℕ) → x < 2 → max x y ≡ 1 → (x ≡ 1) ⊎ (y ≡ 1)
    to zero l e = inr (omega arith)
    to (suc x) l e = inl (omega arith)

    from : (x ≡ 1) ⊎ (y ≡ 1) → max x y ≡ 1
    from (inl e) = omega arith
    from (inr e) = omega arith

-- two numbers and a bit

pub and_bit : (a b k : ℕ) → Bit (bit_and a b) k ↔ (Bit a k × Bit b k)
and_bit a b k =
    let e = op-digit bit_and min and_shr and_step (λ x y l m. omega arith) a b k in
    let (to, from) = min_one (digit a k) (digit b k) (small (a / 2 ^ k)) (small (b / 2 ^ k)) in
    (λ h. to (sym e ∙ h), λ h. e ∙ from h)

pub or_bit : (a b k : ℕ) → Bit (bit_or a b) k ↔ (Bit a k ⊎ Bit b k)
or_bit a b k =
    let e = op-digit bit_or max or_shr or_step (λ x y l m. omega arith) a b k in
    let (to, from) = max_one (digit a k) (digit b k) (small (a / 2 ^ k)) (small (b / 2 ^ k)) in
    (λ h. to (sym e ∙ h), λ h. e ∙ from h)

-- bit by bit

half : (n k : ℕ) → digit (n / 2) k ≡ digit n (suc k)
half n k = ap (λ (x : ℕ). x % 2) (shr-shr n 1 k ∙ ap (λ (j : ℕ). n / 2 ^ j) (one-add k))

pub none_of_zero : (k : ℕ) → ¬ Bit 0 k
none_of_zero k e = omega (arith, ap (λ (x : ℕ). x % 2) (div-eq_of_lt (pow_pos k)))

-- the bits of a power of two
pub power_bit : (j k : ℕ) → Bit (1 * 2 ^ j) k ↔ (k ≡ j)
power_bit zero zero = (λ e. refl, λ e. refl)
power_bit zero (suc k) = (λ e. absurd (none_of_zero k (half 1 k ∙ e)), λ e. absurd (omega arith))
power_bit (suc j) zero = (λ e. absurd (omega (arith, shifted_even 1 j)), λ e. absurd (omega arith))
power_bit (suc j) (suc k) =
    let h = ap (λ (n : ℕ). digit n k) (sym (shifted_half 1 j)) ∙ half (1 * 2 ^ suc j) k in
    (λ e. ap suc ((power_bit j k).0 (h ∙ e)), λ e. sym h ∙ (power_bit j k).1 (omega arith))

-- a number without bits, and two with the same

pub no_bits : (n : ℕ) → ((k : ℕ) → ¬ Bit n k) → n ≡ 0
no_bits =
    bin_ind (λ (n : ℕ). ((k : ℕ) → ¬ Bit n k) → n ≡ 0) (λ f. refl)
    (λ n ih f.
    let e : n / 2 ≡ 0 = ih (λ k h. f (suc k) (sym (half n k) ∙ h)) in
    let o : ¬ (n % 2 ≡ 1) = λ h. f 0 (omega arith) in
    omega arith)

same_digit : (x y : ℕ) → x < 2 → y < 2 → (x ≡ 1 → y ≡ 1) → (y ≡ 1 → x ≡ 1) → x ≡ y
same_digit zero zero l m to from = refl
same_digit zero (suc y) l m to from = omega (arith, from (omega arith))
same_digit (suc x) zero l m to from = omega (arith, to (omega arith))
same_digit (suc x) (suc y) l m to from = omega arith

first : (n : ℕ) → n % 2 ≡ digit n 0
first n = omega arith

pub same_bits : (n m : ℕ) → ((k : ℕ) → Bit n k ↔ Bit m k) → n ≡ m
same_bits =
    bin_ind (λ (n : ℕ). (m : ℕ) → ((k : ℕ) → Bit n k ↔ Bit m k) → n ≡ m)
    (λ m f. sym (no_bits m (λ k h. none_of_zero k ((f k).1 h))))
    (λ n ih m f.
    let e : n / 2 ≡ m / 2 = ih (m / 2) (λ k. (
      λ h. half m k ∙ (f (suc k)).0 (sym (half n k) ∙ h),
      λ h. half n k ∙ (f (suc k)).1 (sym (half m k) ∙ h),
    )) in
    let d : n % 2 ≡ m % 2 = same_digit (n % 2) (m % 2) (small n) (small m)
    (λ h. first m ∙ (f 0).0 (sym (first n) ∙ h)) (λ h. first n ∙ (f 0).1 (sym (first m) ∙ h)) in
    omega arith)

-- numbers gathered

module _ {low high a : ℕ} {s : List ℕ} (g : Gathered low high s a) where
  pub gathered_once : {b : ℕ} → Gathered low high s b → a ≡ b
  gathered_once {b} h = same_bits a b (λ k. (λ e. (h.bit k).1 ((g.bit k).0 e), λ e. (g.bit k).1 ((h.bit k).0 e)))

  pub gathered_fits : a < 2 ^ 24
  gathered_fits =
      let e : a / 2 ^ 24 ≡ 0 = no_bits (a / 2 ^ 24)
      (λ k h. omega (arith, ((g.bit (24 + k)).0 (sym (ap (λ (x : ℕ). x % 2) (shr-shr a 24 k)) ∙ h)).0)) in
      omega arith

  pub share_none : {low' high' b : ℕ} {t : List ℕ} → Gathered low' high' t b
      → (bit_and a b ≡ 0) ↔ ((k : ℕ) → Within low high s k → Within low' high' t k → ⊥)
  share_none {b = b} h = (
    λ e k p q. none_of_zero k (rw (sym e) ((and_bit a b k).1 ((g.bit k).1 p, (h.bit k).1 q))),
    λ f. no_bits (bit_and a b) (λ k e. let (p, q) = (and_bit a b k).0 e in f k ((g.bit k).0 p) ((h.bit k).0 q)),
  )
