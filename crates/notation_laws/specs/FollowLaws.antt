-- A derivation is what the scanner reads: from where a part of a text begins, the scanner comes to where it ends, with
-- what it says.
use Rattle.std.specs.Prelude.{ℕ, suc, ◌+◌, ◌*◌, ◌≤◌, ◌≡◌, Bool, true, false, List, [], ◌∷◌, length}
use Rattle.std.proofs.Math.Path.{refl}
use Rattle.std.proofs.Common.{sym, ◌∙◌, ap, arith}
use Rattle.std.proofs.Math.Dec.{eqb-suc-zero}
use borrow.Author.Tests.{le-leb}
use Rattle.spec.specs.AlphabetLaws.{within_in}
use Rattle.spec.specs.Notation.{Token, blank, opening, closing, minus, digit, other}
use Rattle.spec.specs.Notation.{Items, empty, tokens, Text}
use Rattle.spec.specs.Notation.{Digits, last, more, Kind, sequence, item, after}
use Rattle.spec.specs.Notation.{Reads, nothing, space, plain, signed, number, once, times, ends, gap}
use Rattle.spec.specs.Scanner.{Begun, free, sign, closed, count, Bracket, state, start, finish, may_end}
use Rattle.spec.specs.Scanner.{Outcome, says, wrong, run, said}
use Rattle.notation_laws.specs.Ended.{Ended}
use Rattle.notation_laws.specs.EndedLaws.{digits_bounds}

-- what the scanner gives where a sequence that says v has ended and r is left
abbrev ended : List Bracket → Items → List Token → Outcome
ended [] v [] = says v
ended (o ∷ os) v [] = wrong 0
ended [] v (x ∷ m) = wrong (suc (length m))
ended (o ∷ os) v (x ∷ m) = run (state (closed o.undone v) o.before os) m

-- a sequence ends where it may
ends_here : (b : Begun) (f : Items → Items) (os : List Bracket) (r : List Token) → may_end b ≡ true → Ended r
    → run (state b f os) r ≡ ended os (f (finish b empty)) r
unfolding run
ends_here b f [] [] m e = rw m
ends_here b f (o ∷ os) [] m e = rw (m, eqb-suc-zero (length os))
ends_here b f [] (closing ∷ r) m e = rw m
ends_here b f (o ∷ os) (closing ∷ r) m e = rw (m, le-leb 1 (suc (length os)) (omega arith))
ends_here b f os (blank ∷ r) m e = absurd e
ends_here b f os (opening ∷ r) m e = absurd e
ends_here b f os (minus ∷ r) m e = absurd e
ends_here b f os (digit d ∷ r) m e = absurd e
ends_here b f os (other ∷ r) m e = absurd e

module _ (u : Bool) (f : Items → Items) (os : List Bracket) where
  number_digits : {v n : ℕ} {s r : List Token} (l : ℕ) → Digits 24 v s r n
      → run (state (Begun.number u v l) f os) s ≡ run (state (Begun.number u n l) f os) r
  unfolding run
  number_digits l (last h) = refl
  number_digits l (more {v} {d} k p) =
      let (a, b) = digits_bounds p in
      rw (le-leb (10 * v + d) 24 (omega arith)) (number_digits l p)

  count_digits : {v n : ℕ} {s r : List Token} (g : Items) → Digits 255 v s r n
      → run (state (count u g v) f os) s ≡ run (state (count u g n) f os) r
  unfolding run
  count_digits g (last h) = refl
  count_digits g (more {v} {d} k p) =
      let (a, b) = digits_bounds p in
      rw (le-leb 1 v k, le-leb (10 * v + d) 255 (omega arith)) (count_digits g p)

  -- a count begins directly behind its group
  count_begins : {d n : ℕ} {s r : List Token} (g : Items) → Digits 255 d s r n
      → run (state (closed u g) f os) (digit d ∷ s) ≡ run (state (count u g d) f os) s
  unfolding run
  count_begins {d} g p = let (a, b) = digits_bounds p in rw (le-leb d 255 (omega arith))

-- what has begun directly before an item: nothing, or its minus
abbrev beginning : Bool → Begun
beginning false = free
beginning true = sign

number_begins : (u : Bool) (f : Items → Items) (os : List Bracket) (d : ℕ) (s : List Token) → 1 ≤ d → d ≤ 24
    → run (state (beginning u) f os) (digit d ∷ s) ≡ run (state (Begun.number u d (suc (length s))) f os) s
unfolding run
number_begins false f os d s l h = rw (within_in 1 24 d l h)
number_begins true f os d s l h = rw (within_in 1 24 d l h)

group_begins : (u : Bool) (f : Items → Items) (os : List Bracket) (s : List Token)
    → run (state (beginning u) f os) (opening ∷ s)
    ≡ run (state free (λ t. t) (record { before = f; undone = u } ∷ os)) s
unfolding run
group_begins false f os s = refl
group_begins true f os s = refl

abbrev Follows : Kind → List Token → List Token → Items → Type 0
Follows sequence s r t = (f : Items → Items) (os : List Bracket) → run (state free f os) s ≡ ended os (f t) r
Follows (item u) s r t = (f : Items → Items) (os : List Bracket) → run (state (beginning u) f os) s ≡ ended os (f t) r
Follows after s r t = (b : Begun) (f : Items → Items) (os : List Bracket) → may_end b ≡ true
    → run (state b f os) s ≡ ended os (f (finish b t)) r

follow : {k : Kind} {s r : List Token} {t : Items} → Reads k s r t → Ended r → Follows k s r t
unfolding run
follow {r = r} nothing e = λ f os. ends_here free f os r refl e
follow (space p) e = λ f os. follow p e f os
follow (plain p) e = λ f os. follow p e f os
follow (signed p) e = λ f os. follow p e f os
follow (number {u} {d} {k} {s} l p a) e =
    λ f os.
    let (v, n) = digits_bounds p in
    number_begins u f os d s l (omega arith) ∙ number_digits u f os (suc (length s)) p
    ∙ follow a e (Begun.number u k (suc (length s))) f os refl
follow (once {u} {s} {g = g} q a) e =
    λ f os.
    group_begins u f os s ∙ follow q tt (λ t. t) (record { before = f; undone = u } ∷ os)
    ∙ follow a e (closed u g) f os refl
follow (times {u} {d} {n} {s} {g = g} q p a) e =
    λ f os.
    group_begins u f os s ∙ follow q tt (λ t. t) (record { before = f; undone = u } ∷ os)
    ∙ count_begins u f os g p ∙ count_digits u f os g p ∙ follow a e (count u g n) f os refl
follow {r = r} ends e = λ b f os m. ends_here b f os r m e
follow (gap p) e = λ b f os m. rw m (follow p e (λ t. f (finish b t)) os)

-- a text that says t is read, and t is what it says
pub text_says : (s : List ℕ) {t : Items} → Text s t → run start (tokens s) ≡ says t
text_says s p = follow p tt (λ t. t) []

-- so a text has one reading at most
pub one_reading : (s : List ℕ) (t u : Items) → Text s t → Text s u → t ≡ u
one_reading s t u p q = ap said (sym (text_says s p) ∙ text_says s q)
