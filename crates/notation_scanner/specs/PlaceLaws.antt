-- The depth follows the machine (Scanner of the crate spec), the places follow the definitions, and what each case of a
-- function of this crate shows.
use Rattle.std.specs.Prelude.{ℕ, zero, suc, ◌+◌, ◌-◌, ◌≤◌, ◌≡◌, refl, List, [], ◌∷◌, length, leb}
use Rattle.std.proofs.Common.{arith, ap}
use Rattle.spec.specs.Notation.{Token, blank, opening, closing, minus, digit, other, first, first_deep}
use Rattle.spec.specs.Scanner.{Bracket, State, close, next}
use Rattle.notation_laws.specs.FirstLaws.{found_first}
use Rattle.notation_scanner.specs.Places.{depth_after, deep_here}

-- How many brackets are open

close_depth : (σ : State) (os : List Bracket) → σ.around ≡ os → length (close σ os).around ≡ length os - 1
close_depth σ [] e = rw e
close_depth σ (o ∷ os) e = omega arith

pub depth_like : (σ : State) (x : Token) (l : ℕ) → length (next σ x l).around ≡ depth_after (length σ.around) x
depth_like σ blank l = refl
depth_like σ opening l = refl
depth_like σ closing l = close_depth σ σ.around refl
depth_like σ minus l = refl
depth_like σ (digit d) l = refl
depth_like σ other l = refl

pub depth_low : (d : ℕ) (x : Token) → depth_after d x ≤ d + 1
depth_low d blank = omega arith
depth_low d opening = omega arith
depth_low d closing = omega arith
depth_low d minus = omega arith
depth_low d (digit x) = omega arith
depth_low d other = omega arith

-- Brackets too deep

close_deep : (d i : ℕ) (r : List Token) → first_deep d i (closing ∷ r) ≡ first_deep (d - 1) (suc i) r
unfolding first_deep
close_deep zero i r = refl
close_deep (suc d) i r = ap (λ n. first_deep n (suc i) r) (omega arith)

pub deep_step : (d i : ℕ) (x : Token) (r : List Token)
    → first_deep d i (x ∷ r) ≡ first (deep_here d i x) (first_deep (depth_after d x) (suc i) r)
unfolding first_deep
deep_step d i blank r = refl
deep_step d i opening r = found_first (leb 8 d) i (first_deep (suc d) (suc i) r)
deep_step d i closing r = close_deep d i r
deep_step d i minus r = refl
deep_step d i (digit x) r = refl
deep_step d i other r = refl
