-- The modes follow the machine (Scanner of the crate spec), and what each case of a function of this crate shows.
use Rattle.std.specs.Prelude.{ℕ, suc, ◌≡◌, refl, Bool, true, false, ◌&&◌, List, [], ◌∷◌, length, leb}
use Rattle.std.proofs.Common.{sym, ap, ◌∙◌}
use Rattle.std.proofs.lemmas.Bool.{false≢true}
use Rattle.std.proofs.Math.Bool.{and-false}
use Rattle.spec.specs.Notation.{Token, blank, opening, closing, minus, digit, other}
use Rattle.spec.specs.Scanner.{Begun, free, sign, number, closed, count, Bracket, State, close, next, with_digit}
use Rattle.spec.specs.Scanner.{may_end, may_begin, is_free, may_digit, allowed}
use Rattle.notation_modes.specs.declared.Mode.{Mode}
use Rattle.notation_modes.specs.declared.Mode.TheVariants.{Free, Signed, Number, Closed, Count, Wrong}
use Rattle.notation_modes.specs.Modes.{mode_of, ends, begins, after_minus, passing, after_digit, after_token}

-- A token goes on as the machine does, and is wrong where the machine does not allow it

pub ends_like : (b : Begun) → ends (mode_of b) ≡ may_end b
ends_like free = refl
ends_like sign = refl
ends_like (number u v l) = refl
ends_like (closed u g) = refl
ends_like (count u g n) = refl

begins_like : (b : Begun) → begins (mode_of b) ≡ may_begin b
begins_like free = refl
begins_like sign = refl
begins_like (number u v l) = refl
begins_like (closed u g) = refl
begins_like (count u g n) = refl

minus_like : (b : Begun) → after_minus (mode_of b) ≡ passing (is_free b) Signed
minus_like free = refl
minus_like sign = refl
minus_like (number u v l) = refl
minus_like (closed u g) = refl
minus_like (count u g n) = refl

digit_like : (b : Begun) (d l : ℕ) → after_digit (mode_of b) d ≡ passing (may_digit b d) (mode_of (with_digit b d l))
digit_like free d l = refl
digit_like sign d l = refl
digit_like (number u v k) d l = refl
digit_like (closed u g) d l = refl
digit_like (count u g n) d l = refl

-- the mode m is that of τ where the test b passes
abbrev Like : Mode → Bool → State → Type 0
Like m b τ = m ≡ passing b (mode_of τ.begun)

close_like : (σ : State) (os : List Bracket)
    → Like (passing (ends (mode_of σ.begun) && leb 1 (length os)) Closed)
    (may_end σ.begun && leb 1 (length os)) (close σ os)
close_like σ [] = simp and-false
close_like σ (o ∷ os) = ap (λ b. passing (b && leb 1 (suc (length os))) Closed) (ends_like σ.begun)

pub after_like : (σ : State) (x : Token) (l : ℕ)
    → Like (after_token (mode_of σ.begun) (length σ.around) x)
    (allowed σ.begun (length σ.around) x) (next σ x l)
after_like σ blank l = ap (λ b. passing b Free) (ends_like σ.begun)
after_like σ opening l = ap (λ b. passing b Free) (begins_like σ.begun)
after_like σ closing l = close_like σ σ.around
after_like σ minus l = minus_like σ.begun
after_like σ (digit d) l = digit_like σ.begun d l
after_like σ other l = refl

is_wrong : Mode → Bool
is_wrong Free = false
is_wrong Signed = false
is_wrong (Number v) = false
is_wrong Closed = false
is_wrong (Count n) = false
is_wrong Wrong = true

right : (b : Begun) → is_wrong (mode_of b) ≡ false
unfolding is_wrong
right free = refl
right sign = refl
right (number u v l) = refl
right (closed u g) = refl
right (count u g n) = refl

pub passes : (b : Bool) (m : Mode) → (passing b m ≡ Wrong → ⊥) → b ≡ true
passes true m h = refl
passes false m h = absurd (h refl)

pub fails : (b : Bool) (g : Begun) → passing b (mode_of g) ≡ Wrong → b ≡ false
unfolding is_wrong
fails true g e = absurd (false≢true (sym (right g) ∙ ap is_wrong e))
fails false g e = refl
