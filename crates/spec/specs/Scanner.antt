-- A text read from left to right, token by token: what it says, or where no ending could mend it any more. This
-- computes what Notation states; NotationDemand (Demands) says that it is exact, so nothing here has to be believed.
use Rattle.std.specs.Prelude.{ℕ, suc, ◌+◌, ◌*◌, Bool, true, false, ◌&&◌, List, [], ◌∷◌, length, leb, eqb}
use Rattle.std.proofs.Math.Option.{Option, none, some}
use Rattle.spec.specs.Catalogue.{within}
use Rattle.spec.specs.Notation.{Token, blank, opening, closing, minus, digit, other}
use Rattle.spec.specs.Notation.{Items, empty, command, group}

-- The item that has begun: none; only its minus; a number so far, with the bytes left at its first digit; a group that
-- is closed, with what it holds; the same with its count so far
pub data Begun : Type 0 where
  free : Begun
  sign : Begun
  number : Bool → ℕ → ℕ → Begun
  closed : Bool → Items → Begun
  count : Bool → Items → ℕ → Begun

-- a bracket that is open: the items before it in its sequence, and whether its group is undone
pub record Bracket : Type 0 where
  pub before : Items → Items
  pub undone : Bool

-- the item begun, the items before it in its sequence, and the brackets around it, the innermost first
pub record State : Type 0 where
  pub begun : Begun
  pub before : Items → Items
  pub around : List Bracket

abbrev pub state : Begun → (Items → Items) → List Bracket → State
state b f os = record { begun = b; before = f; around = os }

abbrev pub start : State
start = state free (λ t. t) []

-- the item begun, with the items t behind it
abbrev pub finish : Begun → Items → Items
finish free t = t
finish sign t = t
finish (number u v l) t = command u v l t
finish (closed u g) t = group u g 1 t
finish (count u g n) t = group u g n t

-- May a sequence end here, or a blank stand; may an item begin; may a minus stand; may this digit

abbrev pub may_end : Begun → Bool
may_end free = true
may_end sign = false
may_end (number u v l) = true
may_end (closed u g) = true
may_end (count u g n) = true

abbrev pub may_begin : Begun → Bool
may_begin free = true
may_begin sign = true
may_begin (number u v l) = false
may_begin (closed u g) = false
may_begin (count u g n) = false

abbrev pub is_free : Begun → Bool
is_free free = true
is_free sign = false
is_free (number u v l) = false
is_free (closed u g) = false
is_free (count u g n) = false

abbrev pub may_digit : Begun → ℕ → Bool
may_digit free d = within 1 24 d
may_digit sign d = within 1 24 d
may_digit (number u v l) d = leb (10 * v + d) 24
may_digit (closed u g) d = leb d 255
may_digit (count u g n) d = leb 1 n && leb (10 * n + d) 255

abbrev pub allowed : Begun → ℕ → Token → Bool
allowed b depth blank = may_end b
allowed b depth opening = may_begin b
allowed b depth closing = may_end b && leb 1 depth
allowed b depth minus = is_free b
allowed b depth (digit d) = may_digit b d
allowed b depth other = false

-- Where a token is allowed, what has begun after it; l bytes are left at the token

abbrev pub is_undone : Begun → Bool
is_undone free = false
is_undone sign = true
is_undone (number u v l) = u
is_undone (closed u g) = u
is_undone (count u g n) = u

abbrev pub with_digit : Begun → ℕ → ℕ → Begun
with_digit free d l = number false d l
with_digit sign d l = number true d l
with_digit (number u v k) d l = number u (10 * v + d) k
with_digit (closed u g) d l = count u g d
with_digit (count u g n) d l = count u g (10 * n + d)

-- the innermost bracket closed
abbrev pub close : State → List Bracket → State
close σ [] = σ
close σ (o ∷ os) = state (closed o.undone (σ.before (finish σ.begun empty))) o.before os

abbrev pub next : State → Token → ℕ → State
next σ blank l = state free (λ t. σ.before (finish σ.begun t)) σ.around
next σ opening l = state free (λ t. t) (record { before = σ.before; undone = is_undone σ.begun } ∷ σ.around)
next σ closing l = close σ σ.around
next σ minus l = state sign σ.before σ.around
next σ (digit d) l = state (with_digit σ.begun d l) σ.before σ.around
next σ other l = σ

-- what a text says, or how many bytes are left where it is wrong
pub data Outcome : Type 0 where
  says : Items → Outcome
  wrong : ℕ → Outcome

abbrev pub run_step : Bool → Outcome → Outcome → Outcome
run_step true a b = a
run_step false a b = b

unfoldable pub run : State → List Token → Outcome
run σ [] =
    run_step (may_end σ.begun && eqb (length σ.around) 0) (says (σ.before (finish σ.begun empty))) (wrong 0)
run σ (x ∷ s) =
    run_step (allowed σ.begun (length σ.around) x) (run (next σ x (suc (length s))) s) (wrong (suc (length s)))

abbrev pub wrong_left : Outcome → Option ℕ
wrong_left (says t) = none
wrong_left (wrong l) = some l

abbrev pub said : Outcome → Items
said (says t) = t
said (wrong l) = empty
