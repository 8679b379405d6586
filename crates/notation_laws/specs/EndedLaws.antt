-- Where sequences and numbers end, and the bounds of a number.
use Rattle.std.specs.Prelude.{ℕ, ◌≤◌, List, [], ◌∷◌}
use Rattle.std.proofs.Common.{arith}
use Rattle.spec.specs.Notation.{Token, blank, opening, closing, minus, digit, other, Items, Digits, last, more}
use Rattle.spec.specs.Notation.{Reads, sequence, after, nothing, space, ends, gap}
use Rattle.notation_laws.specs.Ended.{Ended, NoDigit}

-- what may stand after an item is a sequence too
pub after-sequence : {s r : List Token} {t : Items} → Reads after s r t → Reads sequence s r t
after-sequence ends = nothing
after-sequence (gap q) = space q

ended_no_digit : (s : List Token) → Ended s → NoDigit s
ended_no_digit [] e = tt
ended_no_digit (closing ∷ s) e = tt
ended_no_digit (blank ∷ s) e = absurd e
ended_no_digit (opening ∷ s) e = absurd e
ended_no_digit (minus ∷ s) e = absurd e
ended_no_digit (digit d ∷ s) e = absurd e
ended_no_digit (other ∷ s) e = absurd e

pub after_no_digit : {s r : List Token} {t : Items} → Reads after s r t → Ended r → NoDigit s
after_no_digit {s} ends e = ended_no_digit s e
after_no_digit (gap q) e = tt

-- a number only grows with its digits
pub digits_bounds : {high v n : ℕ} {s r : List Token} → Digits high v s r n → (v ≤ n) × (n ≤ high)
digits_bounds (last h) = (omega arith, h)
digits_bounds (more l p) = let (a, b) = digits_bounds p in (omega arith, b)

pub digits_wider : {high wide v n : ℕ} {s r : List Token} → high ≤ wide → Digits high v s r n → Digits wide v s r n
digits_wider {wide = wide} {n = n} w (last h) = let q : n ≤ wide = omega arith in last q
digits_wider w (more l p) = more l (digits_wider w p)
