-- Laws of text put into a row: one text behind another.
use Rattle.std.specs.Prelude.{ℕ, ◌+◌, ◌-◌, ◌^◌, ◌≤◌, ◌<◌, ◌≡◌, refl, Bool, true, false, List, ◌++◌, length, take, leb, Result, Ok}
use Rattle.std.specs.Prelude as rust
use Rattle.std.proofs.Common.{arith, sym, ◌∙◌, ap, subst, append_assoc, length-append, length-take-le, leb-true, leb-false, Fits}
use Rattle.std.proofs.Math.Nat.{pow-le-pow_right}
use Rattle.std.proofs.Math.Option.{Option, some, none}
use Rattle.std.specs.Int.{w64}
use Rattle.io.specs.Counts.{IsPrefixLen}
use Rattle.io.specs.Digits.{IsDigitCount}
use Rattle.spec.specs.Table.{Line, Answer, given, refused}
use Rattle.array_row.specs.Row.{Appended}
use Rattle.array_row.specs.RowLaws.{appended_take, appended_length}
use Rattle.array_row.specs.AppendLaws.{appended_then}
use Rattle.spec.specs.Answers.{told_option}
use Rattle.spec.specs.declared.Refusal.{Refusal}
use Rattle.spec.specs.Listing.{bytes, Decimal, Shows, joined, apart, refuses, Printed, printed, told_verdict}
use Rattle.loops_listing.specs.Put.{Put, PutNumber}

-- a 64-bit number has at most 20 digits
pub decimal_short : {n k : ℕ} → Fits w64 n → IsDigitCount 10 1 n k → k ≤ 20
decimal_short {n} {k} f w = by_test (leb k 20) refl
  where
    by_test : (t : Bool) → leb k 20 ≡ t → k ≤ 20
    by_test true e = leb-true k 20 e
    by_test false e =
        let long : 20 < k = leb-false k 20 e in
        let more : 10 ^ 20 ≤ 10 ^ (k - 1) = pow-le-pow_right {n = 10} (omega arith) {i = 20} (omega arith) in
        absurd (omega (arith, f.fits, w.2 (omega arith)))

-- The lines

pub put_joined : {before after : List ℕ} {at last : ℕ} (c : ℕ) → PutNumber (bytes "joined ") c before at after last
    → Put (Shows (given (some c))) 70 before at after last
put_joined c p = record {
  text = bytes "joined " ++ p.digits;
  says = joined p.says;
  short = omega (arith, p.short, length-append (bytes "joined ") p.digits);
  there = p.there;
}

pub put_apart : {before after : List ℕ} {at last : ℕ} → Appended before at (bytes "apart") after last
    → Put (Shows (given none)) 70 before at after last
put_apart a = record { text = bytes "apart"; says = apart; short = omega arith; there = a }

-- a word and a number behind a text
put_behind : {before middle after x w : List ℕ} {n at mid end : ℕ} → Appended before at x middle mid
    → (p : PutNumber w n middle mid after end) → mid ≤ length before → Appended before at (x ++ w ++ p.digits) after end
put_behind {before} {after = after} {x} {w} {at = at} {end = end} a p h =
    subst (λ t. Appended before at t after end) (sym (append_assoc x w p.digits)) (appended_then a p.there h)

module _ {b0 b1 b2 b3 : List ℕ} {at e1 e2 e3 : ℕ} where
  pub put_refused : (l : Line) (k : ℕ) → k ≡ l.number
      → PutNumber (bytes "refused ") k b0 at b1 e1 → PutNumber (bytes " ") l.plan b1 e1 b2 e2
      → PutNumber (bytes " ") l.place b2 e2 b3 e3 → at + 70 ≤ length b0 → Put (Shows (refused l)) 70 b0 at b3 e3
  put_refused l k e n p i h = record {
    text = bytes "refused " ++ n.digits ++ bytes " " ++ p.digits ++ bytes " " ++ i.digits;
    says = refuses (subst (λ m. Decimal m n.digits) e n.says) p.says i.says;
    short = omega (arith, whole.ends, ends1, ends2, ends3);
    there = whole;
  }
    where
      ends1 : e1 ≤ at + 28
      ends1 = omega (arith, n.there.ends, n.short, length-append (bytes "refused ") n.digits)

      ends2 : e2 ≤ e1 + 21
      ends2 = omega (arith, p.there.ends, p.short, length-append (bytes " ") p.digits)

      ends3 : e3 ≤ e2 + 21
      ends3 = omega (arith, i.there.ends, i.short, length-append (bytes " ") i.digits)

      whole : Appended b0 at (bytes "refused " ++ n.digits ++ bytes " " ++ p.digits ++ bytes " " ++ i.digits) b3 e3
      whole = put_behind (put_behind n.there p (omega (arith, ends1))) i (omega (arith, ends1, ends2))

-- what a verdict that is no refusal shows, once it is known which it is
pub put_given : {before after : List ℕ} {at last : ℕ} {v : Result (rust.Option ℕ) Refusal} {o p : rust.Option ℕ}
    → v ≡ Ok o → o ≡ p → Put (Shows (given (told_option p))) 70 before at after last
    → Put (Shows (told_verdict v)) 70 before at after last
put_given {before} {after} {at} {last} e f q =
    subst (λ u. Put (Shows (told_verdict u)) 70 before at after last) (sym (e ∙ ap Ok f)) q

-- the whole text
pub put_printed : {b0 b1 b2 b3 : List ℕ} {e1 e2 e3 : ℕ} (a : Answer (Option ℕ))
    → Appended b0 0 (bytes "loops 1\n") b1 e1 → Put (Shows a) 70 b1 e1 b2 e2
    → Appended b2 e2 (bytes "\n") b3 e3 → 79 ≤ length b0
    → Printed a (take e3 b3) × IsPrefixLen e3 b3
put_printed {b0} {b1} {b2} {b3} {e1} {e2} {e3} a f p g h = (
  subst (Printed a) (sym (appended_take whole short)) (printed p.says),
  (within, sym (length-take-le e3 b3 within)),
)
  where
    line : Appended b0 0 (bytes "loops 1\n" ++ p.text) b2 e2
    line = appended_then f p.there (omega (arith, f.ends))

    whole : Appended b0 0 (bytes "loops 1\n" ++ p.text ++ bytes "\n") b3 e3
    whole = appended_then line g (omega (arith, f.ends, p.there.ends, p.short))

    short : e3 ≤ length b0
    short = omega (arith, f.ends, p.there.ends, p.short, g.ends)

    within : e3 ≤ length b3
    within = omega (arith, short, appended_length whole short)
