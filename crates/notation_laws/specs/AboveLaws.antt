-- What is left of a text only gets shorter, so the first digit of a command above N stands within the text.
use Rattle.std.specs.Prelude.{ℕ, suc, ◌≤◌, ◌≡◌, Bool, true, false, List, length, ltb}
use Rattle.std.proofs.Common.{arith}
use Rattle.std.proofs.Math.Option.{Option, none, some}
use Rattle.spec.specs.Table.{found_step}
use Rattle.spec_laws.specs.TableLaws.{none-some, some_same}
use Rattle.spec.specs.Notation.{Token, Items, Digits, last, more, first, first_above}
use Rattle.spec.specs.Notation.{Kind, Reads, nothing, space, plain, signed, number, once, times, ends, gap}

pub digits_shorter : {high v n : ℕ} {s r : List Token} → Digits high v s r n → length r ≤ length s
digits_shorter (last h) = omega arith
digits_shorter (more l p) = omega (arith, digits_shorter p)

reads_shorter : {k : Kind} {s r : List Token} {t : Items} → Reads k s r t → length r ≤ length s
reads_shorter nothing = omega arith
reads_shorter (space p) = omega (arith, reads_shorter p)
reads_shorter (plain p) = reads_shorter p
reads_shorter (signed p) = omega (arith, reads_shorter p)
reads_shorter (number l d p) = omega (arith, digits_shorter d, reads_shorter p)
reads_shorter (once q p) = omega (arith, reads_shorter q, reads_shorter p)
reads_shorter (times q d p) = omega (arith, reads_shorter q, digits_shorter d, reads_shorter p)
reads_shorter ends = omega arith
reads_shorter (gap p) = omega (arith, reads_shorter p)

found_within : (b : Bool) (i : ℕ) (o : Option ℕ) {l m : ℕ} → i ≤ m → (o ≡ some l → l ≤ m) → found_step b i o ≡ some l
    → l ≤ m
found_within true i o h f e = omega (arith, some_same e)
found_within false i o h f e = f e

first_within : (o p : Option ℕ) {l m : ℕ} → (o ≡ some l → l ≤ m) → (p ≡ some l → l ≤ m) → first o p ≡ some l
    → l ≤ m
first_within none p f g e = g e
first_within (some i) p f g e = f e

pub above_within : (n : ℕ) {k : Kind} {s r : List Token} {t : Items} {l : ℕ} → Reads k s r t → first_above n t ≡ some l
    → l ≤ length s
unfolding first_above
above_within n nothing e = absurd (none-some e)
above_within n (space p) e = omega (arith, above_within n p e)
above_within n (plain p) e = above_within n p e
above_within n (signed p) e = omega (arith, above_within n p e)
above_within n (number {k = k} {s = s} {t = t} h d p) e =
    found_within (ltb n k) (suc (length s)) (first_above n t) (omega arith)
    (λ w. omega (arith, digits_shorter d, above_within n p w)) e
above_within n (once {g = g} {t = t} q p) e =
    first_within (first_above n g) (first_above n t) (λ w. omega (arith, above_within n q w))
    (λ w. omega (arith, reads_shorter q, above_within n p w)) e
above_within n (times {g = g} {t = t} q d p) e =
    first_within (first_above n g) (first_above n t) (λ w. omega (arith, above_within n q w))
    (λ w. omega (arith, reads_shorter q, digits_shorter d, above_within n p w)) e
above_within n ends e = absurd (none-some e)
above_within n (gap p) e = omega (arith, above_within n p e)
