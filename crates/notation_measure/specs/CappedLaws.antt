-- Lengths that stop growing past 1,024 decide the same: a sum or a multiple may be cut off before it is worked out.
use Rattle.std.specs.Prelude.{ℕ, zero, suc, ◌+◌, ◌*◌, ◌≤◌, ◌<◌, ◌≡◌, refl, Bool, true, false, ◌↔◌, leb}
use Rattle.std.proofs.Common.{suc-mul, arith, ap, leb-true, leb-false}
use Rattle.notation_measure.specs.Measured.{capped}

pub capped_low : (n : ℕ) → capped n ≤ 1025
capped_low n = omega arith

-- a length is past 1,024 exactly if it is so cut off
pub capped_same : (n : ℕ) → (1024 < n) ↔ (1024 < capped n)
capped_same n = (λ h. omega arith, λ h. omega arith)

-- and one that is not past is as it was
pub capped_exact : (n : ℕ) → capped n ≤ 1024 → capped n ≡ n
capped_exact n h = omega arith

pub capped_left : (a b : ℕ) → capped (capped a + b) ≡ capped (a + b)
capped_left a b = omega arith

pub capped_right : (a b : ℕ) → capped (a + capped b) ≡ capped (a + b)
capped_right a b = omega arith

pub capped_times : (n g : ℕ) → capped (n * capped g) ≡ capped (n * g)
capped_times zero g = omega arith
capped_times (suc n) g = go (leb g 1025) refl
  where
    go : (b : Bool) → leb g 1025 ≡ b → capped (suc n * capped g) ≡ capped (suc n * g)
    go true t =
        let h = leb-true g 1025 t in
        let e : capped g ≡ g = omega arith in
        ap (λ k. capped (suc n * k)) e
    go false t =
        let h = leb-false g 1025 t in
        omega (arith, suc-mul n (capped g), suc-mul n g)
