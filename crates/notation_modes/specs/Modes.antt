-- The machine that reads a text (Scanner of the crate spec) without what the text says: what has begun.
use Rattle.std.specs.Prelude.{ℕ, ◌+◌, ◌*◌, Bool, true, false, ◌&&◌, leb}
use Rattle.spec.specs.Catalogue.{within}
use Rattle.spec.specs.Notation.{Token, blank, opening, closing, minus, digit, other}
use Rattle.spec.specs.Scanner.{Begun, free, sign, number, closed, count}
use Rattle.notation_modes.specs.declared.Mode.{Mode}
use Rattle.notation_modes.specs.declared.Mode.TheVariants.{Free, Signed, Number, Closed, Count, Wrong}

abbrev pub mode_of : Begun → Mode
mode_of free = Free
mode_of sign = Signed
mode_of (number u v l) = Number v
mode_of (closed u g) = Closed
mode_of (count u g n) = Count n

abbrev pub ends : Mode → Bool
ends Free = true
ends Signed = false
ends (Number v) = true
ends Closed = true
ends (Count n) = true
ends Wrong = false

abbrev pub begins : Mode → Bool
begins Free = true
begins Signed = true
begins (Number v) = false
begins Closed = false
begins (Count n) = false
begins Wrong = false

abbrev pub after_minus : Mode → Mode
after_minus Free = Signed
after_minus Signed = Wrong
after_minus (Number v) = Wrong
after_minus Closed = Wrong
after_minus (Count n) = Wrong
after_minus Wrong = Wrong

-- the mode where a test passes
abbrev pub passing : Bool → Mode → Mode
passing true m = m
passing false m = Wrong

abbrev pub after_digit : Mode → ℕ → Mode
after_digit Free d = passing (within 1 24 d) (Number d)
after_digit Signed d = passing (within 1 24 d) (Number d)
after_digit (Number v) d = passing (leb (10 * v + d) 24) (Number (10 * v + d))
after_digit Closed d = passing (leb d 255) (Count d)
after_digit (Count n) d = passing (leb 1 n && leb (10 * n + d) 255) (Count (10 * n + d))
after_digit Wrong d = Wrong

abbrev pub after_token : Mode → ℕ → Token → Mode
after_token m depth blank = passing (ends m) Free
after_token m depth opening = passing (begins m) Free
after_token m depth closing = passing (ends m && leb 1 depth) Closed
after_token m depth minus = after_minus m
after_token m depth (digit d) = after_digit m d
after_token m depth other = Wrong
