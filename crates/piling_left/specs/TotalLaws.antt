-- Laws of a sum: one number of it more or less, and a sum of which nothing is left.
use Rattle.std.specs.Prelude.{ℕ, zero, suc, ◌+◌, ◌<◌, ◌≡◌, refl, List, [], ◌∷◌, length, get_or, set}
use Rattle.std.proofs.Common.{arith}
use Rattle.piling_left.specs.Left.{total, lowered}

pub total_raised : (n : List ℕ) (k : ℕ) → k < length n → total (set n k (get_or n k 0 + 1)) ≡ suc (total n)
unfolding total
total_raised [] k l = absurd (omega arith)
total_raised (a ∷ n) zero l = omega arith
total_raised (a ∷ n) (suc k) l = omega (arith, total_raised n k (omega arith))

pub total_lowered : (n : List ℕ) (k : ℕ) → ¬ (get_or n k 0 ≡ 0) → total n ≡ suc (total (lowered n k))
unfolding total
total_lowered [] k e = absurd (e refl)
total_lowered (a ∷ n) zero e = omega (arith, e)
total_lowered (a ∷ n) (suc k) e = omega (arith, total_lowered n k e)

pub total_none : (n : List ℕ) → total n ≡ 0 → (k : ℕ) → get_or n k 0 ≡ 0
unfolding total
total_none [] e k = refl
total_none (a ∷ n) e zero = omega (arith, e)
total_none (a ∷ n) e (suc k) = total_none n (omega (arith, e)) k
