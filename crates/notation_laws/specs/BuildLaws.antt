-- What the scanner reads has a derivation: from every state, what a text still says is put together from derivations of
-- the rest of the item begun, of its sequence, and of the sequences around it.
use Rattle.std.specs.Prelude.{ℕ, suc, ◌+◌, ◌*◌, ◌≤◌, ◌≡◌, refl, Bool, true, false, ◌&&◌, List, [], ◌∷◌, length, leb, eqb}
use Rattle.std.proofs.lemmas.Bool.{false≢true}
use Rattle.std.proofs.Common.{arith, leb-true, eqb-true}
use Rattle.theory_words.specs.BoolLaws.{and_both}
use Rattle.spec_laws.specs.CommandLaws.{within-true}
use Rattle.spec.specs.Notation.{Token, blank, opening, closing, minus, digit, other}
use Rattle.spec.specs.Notation.{Items, empty, command, group, tokens, Text}
use Rattle.spec.specs.Notation.{Digits, last, more, sequence, item, after}
use Rattle.spec.specs.Notation.{Reads, plain, signed, number, once, times, ends, gap}
use Rattle.spec.specs.Scanner.{Begun, free, sign, closed, count, Bracket, state, start, finish}
use Rattle.spec.specs.Scanner.{may_end, may_begin, is_free, may_digit, is_undone, with_digit}
use Rattle.spec.specs.Scanner.{Outcome, says, wrong, run_step, run}
use Rattle.notation_laws.specs.EndedLaws.{after-sequence}

-- the item begun, and the rest of its sequence, which ends where r is left: together they say t
data Rest : Begun → List Token → List Token → Items → Type 0 where
  to_sequence : {s r : List Token} {t : Items} → Reads sequence s r t → Rest free s r t
  to_item : {s r : List Token} {t : Items} → Reads (item true) s r t → Rest sign s r t
  to_number : {u : Bool} {v l k : ℕ} {s m r : List Token} {t : Items} → Digits 24 v s m k → Reads after m r t
      → Rest (Begun.number u v l) s r (command u k l t)
  to_group : {u : Bool} {s r : List Token} {g t : Items} → Reads after s r t → Rest (closed u g) s r (group u g 1 t)
  to_digit : {u : Bool} {d : ℕ} {s r : List Token} {g t : Items} → Rest (count u g d) s r t
      → Rest (closed u g) (digit d ∷ s) r t
  to_count : {u : Bool} {n k : ℕ} {s m r : List Token} {g t : Items} → Digits 255 n s m k → Reads after m r t
      → Rest (count u g n) s r (group u g k t)

-- a number or count so far is one that a text may have
abbrev Valid : Begun → Type 0
Valid free = Unit {0}
Valid sign = Unit {0}
Valid (Begun.number u v l) = (1 ≤ v) × (v ≤ 24)
Valid (closed u g) = Unit {0}
Valid (count u g n) = n ≤ 255

-- The rest from where a token is left, and then from where it has been read

rest_after : {s r : List Token} {t : Items} (b : Begun) → may_end b ≡ true → Valid b → Reads after s r t
    → Rest b s r (finish b t)
rest_after free m v a = to_sequence (after-sequence a)
rest_after sign m v a = absurd (false≢true m)
rest_after (Begun.number u n l) m v a = to_number (last v.1) a
rest_after (closed u g) m v a = to_group a
rest_after (count u g n) m v a = to_count (last v) a

group_item : {u : Bool} {s m r : List Token} {g t : Items} → Reads sequence s (closing ∷ m) g → Rest (closed u g) m r t
    → Reads (item u) (opening ∷ s) r t
group_item p (to_group a) = once p a
group_item p (to_digit (to_count d a)) = times p d a

rest_opening : {s m r : List Token} {g t : Items} (b : Begun) → may_begin b ≡ true → Reads sequence s (closing ∷ m) g
    → Rest (closed (is_undone b) g) m r t → Rest b (opening ∷ s) r t
rest_opening free m p q = to_sequence (plain (group_item p q))
rest_opening sign m p q = to_item (group_item p q)
rest_opening (Begun.number u v l) m p q = absurd (false≢true m)
rest_opening (closed u g) m p q = absurd (false≢true m)
rest_opening (count u g n) m p q = absurd (false≢true m)

rest_minus : {s r : List Token} {t : Items} (b : Begun) → is_free b ≡ true → Rest sign s r t → Rest b (minus ∷ s) r t
rest_minus free m (to_item p) = to_sequence (signed p)
rest_minus sign m q = absurd (false≢true m)
rest_minus (Begun.number u v l) m q = absurd (false≢true m)
rest_minus (closed u g) m q = absurd (false≢true m)
rest_minus (count u g n) m q = absurd (false≢true m)

number-item : {u : Bool} {d : ℕ} {s r : List Token} {t : Items} → 1 ≤ d
    → Rest (Begun.number u d (suc (length s))) s r t → Reads (item u) (digit d ∷ s) r t
number-item l (to_number p a) = number l p a

rest_digit : {s r : List Token} {t : Items} (b : Begun) (d : ℕ) → may_digit b d ≡ true → Valid b
    → Rest (with_digit b d (suc (length s))) s r t → Rest b (digit d ∷ s) r t
rest_digit free d m v q = to_sequence (plain (number-item (within-true 1 24 d m).0 q))
rest_digit sign d m v q = to_item (number-item (within-true 1 24 d m).0 q)
rest_digit (Begun.number u n l) d m v (to_number p a) = to_number (more v.0 p) a
rest_digit (closed u g) d m v q = to_digit q
rest_digit (count u g n) d m v (to_count p a) =
    to_count (more (leb-true 1 n (and_both (leb 1 n) (leb (10 * n + d) 255) m).0) p) a

valid_digit : (b : Begun) (d l : ℕ) → may_digit b d ≡ true → Valid b → Valid (with_digit b d l)
valid_digit free d l m v = within-true 1 24 d m
valid_digit sign d l m v = within-true 1 24 d m
valid_digit (Begun.number u n k) d l m v = (omega (arith, v.0), leb-true (10 * n + d) 24 m)
valid_digit (closed u g) d l m v = leb-true d 255 m
valid_digit (count u g n) d l m v = leb-true (10 * n + d) 255 (and_both (leb 1 n) (leb (10 * n + d) 255) m).1

-- a sequence that says v has ended in these brackets, and r is left: with it the whole text says t
data Completes : List Bracket → Items → List Token → Items → Type 0 where
  whole : {v t : Items} → v ≡ t → Completes [] v [] t
  close : {o : Bracket} {os : List Bracket} {v w t : Items} {m r : List Token} → Rest (closed o.undone v) m r w
      → Completes os (o.before w) r t → Completes (o ∷ os) v (closing ∷ m) t

-- the text s, from a state, says t
data Built (b : Begun) (f : Items → Items) (os : List Bracket) (s : List Token) (t : Items) : Type 0 where
  built : {r : List Token} {w : Items} → Rest b s r w → Completes os (f w) r t → Built b f os s t

says_same : {t u : Items} → says t ≡ says u → t ≡ u
says_same e = cc

pub wrong-says : {l : ℕ} {t : Items} → wrong l ≡ says t → ⊥
wrong-says e = let z : ◌≡◌ {A = ℕ} 0 1 = cc in omega arith

-- what is read to the end has passed each test
pub passed : (p : Bool) (a : Outcome) (l : ℕ) {t : Items} → run_step p a (wrong l) ≡ says t
    → (p ≡ true) × (a ≡ says t)
passed true a l e = (refl, e)
passed false a l e = absurd (wrong-says e)

module _ (b : Begun) (f : Items → Items) (os : List Bracket) {s : List Token} {t : Items} where
  built_blank : may_end b ≡ true → Valid b → Built free (λ w. f (finish b w)) os s t → Built b f os (blank ∷ s) t
  built_blank m v (built (to_sequence p) c) = built (rest_after b m v (gap p)) c

  built_opening : may_begin b ≡ true
      → Built free (λ w. w) (record { before = f; undone = is_undone b } ∷ os) s t → Built b f os (opening ∷ s) t
  built_opening m (built (to_sequence p) (close q c)) = built (rest_opening b m p q) c

  built_closing : (o : Bracket) → may_end b ≡ true → Valid b
      → Built (closed o.undone (f (finish b empty))) o.before os s t → Built b f (o ∷ os) (closing ∷ s) t
  built_closing o m v (built q c) = built (rest_after b m v ends) (close q c)

  built_minus : is_free b ≡ true → Built sign f os s t → Built b f os (minus ∷ s) t
  built_minus m (built q c) = built (rest_minus b m q) c

  built_digit : (d : ℕ) → may_digit b d ≡ true → Valid b → Built (with_digit b d (suc (length s))) f os s t
      → Built b f os (digit d ∷ s) t
  built_digit d m v (built q c) = built (rest_digit b d m v q) c

build : (s : List Token) (b : Begun) (f : Items → Items) (os : List Bracket) {t : Items} → Valid b
    → run (state b f os) s ≡ says t → Built b f os s t
unfolding run
build [] b f [] v e =
    let (m, h) = passed (may_end b && eqb 0 0) (says (f (finish b empty))) 0 e in
    built (rest_after b (and_both (may_end b) true m).0 v ends) (whole (says_same h))
build [] b f (o ∷ os) v e =
    let (m, h) = passed (may_end b && eqb (suc (length os)) 0) (says (f (finish b empty))) 0 e in
    absurd (let z = eqb-true (suc (length os)) 0 (and_both (may_end b) (eqb (suc (length os)) 0) m).1 in omega arith)
build (blank ∷ s) b f os v e =
    let (m, h) = passed (may_end b) (run (state free (λ w. f (finish b w)) os) s) (suc (length s)) e in
    built_blank b f os m v (build s free (λ w. f (finish b w)) os tt h)
build (opening ∷ s) b f os v e =
    let os' : List Bracket = record { before = f; undone = is_undone b } ∷ os in
    let (m, h) = passed (may_begin b) (run (state free (λ w. w) os') s) (suc (length s)) e in
    built_opening b f os m (build s free (λ w. w) os' tt h)
build (closing ∷ s) b f [] v e =
    let (m, h) = passed (may_end b && leb 1 0) (run (state b f []) s) (suc (length s)) e in
    absurd (false≢true (and_both (may_end b) false m).1)
build (closing ∷ s) b f (o ∷ os) v e =
    let g = closed o.undone (f (finish b empty)) in
    let (m, h) = passed (may_end b && leb 1 (suc (length os))) (run (state g o.before os) s) (suc (length s)) e in
    built_closing b f os o (and_both (may_end b) (leb 1 (suc (length os))) m).0 v (build s g o.before os tt h)
build (minus ∷ s) b f os v e =
    let (m, h) = passed (is_free b) (run (state sign f os) s) (suc (length s)) e in
    built_minus b f os m (build s sign f os tt h)
build (digit d ∷ s) b f os v e =
    let b' = with_digit b d (suc (length s)) in
    let (m, h) = passed (may_digit b d) (run (state b' f os) s) (suc (length s)) e in
    built_digit b f os d m v (build s b' f os (valid_digit b d (suc (length s)) m v) h)
build (other ∷ s) b f os v e = absurd (wrong-says e)

from_start : {s : List Token} {t : Items} → Built free (λ w. w) [] s t → Reads sequence s [] t
from_start (built (to_sequence p) (whole e)) = rw e at p

-- a text that the scanner reads has a derivation of what it says
pub says_text : (s : List ℕ) {t : Items} → run start (tokens s) ≡ says t → Text s t
says_text s e = from_start (build (tokens s) free (λ w. w) [] tt e)
