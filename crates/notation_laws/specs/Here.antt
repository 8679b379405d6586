-- A sequence that stands in a text, as a reader meets it from left to right: it ends here, or it begins with a blank, a
-- command or a group, and a sequence follows.
use Rattle.std.specs.Prelude.{ℕ, ◌+◌, ◌-◌, ◌*◌, ◌≤◌, ◌<◌, ◌≡◌, Bool, false, not, List, [], ◌∷◌, eqb, length, drop}
use Rattle.spec.specs.Answers.{yes_no}
use Rattle.spec.specs.Notation.{Token, blank, opening, closing, minus, digit, other, token_of}
use Rattle.spec.specs.Notation.{Items, command, group, Digits, Reads, sequence, nesting_of}
use Rattle.notation_laws.specs.Ended.{Ended, NoDigit}

-- a sequence stands at the start of s, nested at most n deep: what is left behind it, and what it says
pub record Here (s : List Token) (n : ℕ) : Type 0 where
  pub rest : List Token
  pub says : Items
  pub reads : Reads sequence s rest says
  pub ended : Ended rest
  pub shallow : nesting_of says ≤ n

-- the byte of a blank, a bracket or a minus; 0 for every other token
abbrev pub mark_of : Token → ℕ
mark_of blank = 32
mark_of opening = 40
mark_of closing = 41
mark_of minus = 45
mark_of (digit d) = 0
mark_of other = 0

-- a byte that stands for such a token
pub record Mark (b : ℕ) : Type 0 where
  pub its_own : mark_of (token_of b) ≡ b
  pub some : 0 < b

-- whether the token with this byte stands first
abbrev pub marked : List Token → ℕ → Bool
marked [] b = false
marked (x ∷ s) b = eqb (mark_of x) b

abbrev pub is_blank : List Token → Bool
is_blank s = marked s 32

abbrev pub is_opening : List Token → Bool
is_opening s = marked s 40

abbrev pub is_minus : List Token → Bool
is_minus s = marked s 45

-- does the sequence go on
abbrev pub goes_on : List Token → Bool
goes_on [] = false
goes_on (x ∷ s) = not (eqb (mark_of x) 41)

-- what is left behind a minus, if one stands first
abbrev pub past_minus : List Token → List Token
past_minus s = drop (yes_no (is_minus s)) s

-- a number read as far as its digits go, from the value so far, and what is left behind it
pub record Number : Type 0 where
  pub value : ℕ
  pub rest : List Token

unfoldable pub digits_from : ℕ → List Token → Number
digits_from v [] = record { value = v; rest = [] }
digits_from v (blank ∷ s) = record { value = v; rest = blank ∷ s }
digits_from v (opening ∷ s) = record { value = v; rest = opening ∷ s }
digits_from v (closing ∷ s) = record { value = v; rest = closing ∷ s }
digits_from v (minus ∷ s) = record { value = v; rest = minus ∷ s }
digits_from v (digit d ∷ s) = digits_from (10 * v + d) s
digits_from v (other ∷ s) = record { value = v; rest = other ∷ s }

-- the number that stands first, or 1 where no digit does
abbrev pub number_of : List Token → Number
number_of [] = record { value = 1; rest = [] }
number_of (blank ∷ s) = record { value = 1; rest = blank ∷ s }
number_of (opening ∷ s) = record { value = 1; rest = opening ∷ s }
number_of (closing ∷ s) = record { value = 1; rest = closing ∷ s }
number_of (minus ∷ s) = record { value = 1; rest = minus ∷ s }
number_of (digit d ∷ s) = digits_from d s
number_of (other ∷ s) = record { value = 1; rest = other ∷ s }

-- the digits that follow keep the value at most 255
abbrev pub Small : ℕ → List Token → Type 0
Small v s = (m : List Token) × (k : ℕ) × Digits 255 v s m k × NoDigit m

-- a number that stands first is at most 255
abbrev pub SmallNumber : List Token → Type 0
SmallNumber [] = Unit {0}
SmallNumber (blank ∷ s) = Unit {0}
SmallNumber (opening ∷ s) = Unit {0}
SmallNumber (closing ∷ s) = Unit {0}
SmallNumber (minus ∷ s) = Unit {0}
SmallNumber (digit d ∷ s) = Small d s
SmallNumber (other ∷ s) = Unit {0}

-- a sequence nested at most n deep, which says t and leaves r, begins with a command, undone or not, whose number
-- stands at the start of z
pub record CommandFirst (u : Bool) (z r : List Token) (t : Items) (n : ℕ) : Type 0 where
  pub digit_first : NoDigit z → ⊥
  pub small : SmallNumber z
  pub low : 1 ≤ (number_of z).value
  pub high : (number_of z).value ≤ 24
  pub behind : Here (number_of z).rest n
  pub same_rest : behind.rest ≡ r
  pub begins : t ≡ command u (number_of z).value (length z) behind.says

-- it begins with a group in brackets, undone or not, that holds what stands at the start of z
pub record GroupFirst (u : Bool) (z r : List Token) (t : Items) (n : ℕ) : Type 0 where
  pub deep : 1 ≤ n
  pub inner : Here z (n - 1)
  pub outer : List Token
  pub closes : inner.rest ≡ closing ∷ outer
  pub small : SmallNumber outer
  pub behind : Here (number_of outer).rest n
  pub same_rest : behind.rest ≡ r
  pub begins : t ≡ group u inner.says (number_of outer).value behind.says
