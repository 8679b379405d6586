-- What a sequence begins with, from its first tokens.
use Rattle.std.specs.Prelude.{ℕ, suc, ◌-◌, ◌≤◌, ◌≡◌, refl, Bool, true, false, List, [], ◌∷◌, length, drop}
use Rattle.std.proofs.Math.Nat.{le-max_left, le-max_right}
use Rattle.std.proofs.Common.{arith, sym, subst, true≢false}
use Rattle.std.proofs.Math.Path.{ap}
use Rattle.std.proofs.lemmas.Bool.{false≢true}
use Rattle.spec.specs.Notation.{Token, blank, opening, closing, minus, digit, other}
use Rattle.spec.specs.Notation.{Items, empty, command, group, Digits, last, more}
use Rattle.spec.specs.Notation.{Reads, sequence, item, after, nothing, space, plain, signed, number, once, times}
use Rattle.spec.specs.Notation.{nesting_of}
use Rattle.notation_laws.specs.Ended.{Ended, NoDigit}
use Rattle.notation_laws.specs.EndedLaws.{after-sequence, after_no_digit, digits_bounds, digits_wider}
use Rattle.notation_laws.specs.Here.{Here, goes_on, is_blank, is_opening, is_minus, past_minus, digits_from, number_of}
use Rattle.notation_laws.specs.Here.{SmallNumber, CommandFirst, GroupFirst}

-- all digits are read
pub digits_from_lem : {high v k : ℕ} {s m : List Token} → Digits high v s m k → NoDigit m
    → digits_from v s ≡ record { value = k; rest = m }
unfolding digits_from
digits_from_lem {m = []} (last h) e = refl
digits_from_lem {m = blank ∷ m} (last h) e = refl
digits_from_lem {m = opening ∷ m} (last h) e = refl
digits_from_lem {m = closing ∷ m} (last h) e = refl
digits_from_lem {m = minus ∷ m} (last h) e = refl
digits_from_lem {m = digit d ∷ m} (last h) e = absurd e
digits_from_lem {m = other ∷ m} (last h) e = refl
digits_from_lem (more l p) e = digits_from_lem p e

-- a number that stands first, read whole
number_first : {high d k : ℕ} {s m : List Token} → Digits high d s m k → NoDigit m
    → number_of (digit d ∷ s) ≡ record { value = k; rest = m }
number_first p e = digits_from_lem p e

-- where no digit stands first
pub no_number : (s : List Token) → NoDigit s → number_of s ≡ record { value = 1; rest = s }
no_number [] e = refl
no_number (blank ∷ s) e = refl
no_number (opening ∷ s) e = refl
no_number (closing ∷ s) e = refl
no_number (minus ∷ s) e = refl
no_number (digit d ∷ s) e = absurd e
no_number (other ∷ s) e = refl

no_small : (s : List Token) → NoDigit s → SmallNumber s
no_small [] e = tt
no_small (blank ∷ s) e = tt
no_small (opening ∷ s) e = tt
no_small (closing ∷ s) e = tt
no_small (minus ∷ s) e = tt
no_small (digit d ∷ s) e = absurd e
no_small (other ∷ s) e = tt

module _ {n : ℕ} where
  abbrev here_of : {s r : List Token} {t : Items} → Reads sequence s r t → Ended r → nesting_of t ≤ n → Here s n
  here_of p e h = record { rest = _; says = _; reads = p; ended = e; shallow = h }

  pub here_over : {s : List Token} (h : Here s n) → goes_on s ≡ false → (h.rest ≡ s) × (h.says ≡ empty)
  here_over h g = go h.reads g
    where
      go : {s r : List Token} {t : Items} → Reads sequence s r t → goes_on s ≡ false → (r ≡ s) × (t ≡ empty)
      go nothing g = (refl, refl)
      go (space p) g = absurd (true≢false g)
      go (plain (number l d p)) g = absurd (true≢false g)
      go (plain (once q p)) g = absurd (true≢false g)
      go (plain (times q d p)) g = absurd (true≢false g)
      go (signed p) g = absurd (true≢false g)

  pub here_space : {s : List Token} (h : Here s n) → is_blank s ≡ true
      → (g : Here (drop 1 s) n) × (g.rest ≡ h.rest) × (g.says ≡ h.says)
  here_space {s} h b = go h.reads h.ended h.shallow b
    where
      go : {s r : List Token} {t : Items} (p : Reads sequence s r t) (e : Ended r) (i : nesting_of t ≤ n)
          → is_blank s ≡ true → (g : Here (drop 1 s) n) × (g.rest ≡ r) × (g.says ≡ t)
      go {s = []} p e i b = absurd (false≢true b)
      go {s = blank ∷ s} nothing e i b = absurd e
      go {s = blank ∷ s} (space p) e i b = (here_of p e i, refl, refl)
      go {s = blank ∷ s} (plain p) e i b = elim p [ ]
      go {s = opening ∷ s} p e i b = absurd (false≢true b)
      go {s = closing ∷ s} p e i b = absurd (false≢true b)
      go {s = minus ∷ s} p e i b = absurd (false≢true b)
      go {s = digit d ∷ s} p e i b = absurd (false≢true b)
      go {s = other ∷ s} p e i b = absurd (false≢true b)

  -- the rest of a sequence behind an item
  abbrev here_behind : {q s r : List Token} {t : Items} → q ≡ s → Reads after s r t → Ended r → nesting_of t ≤ n
      → Here q n
  here_behind {q} {s} {r} {t} z p e i = record {
    rest = r;
    says = t;
    reads = subst (λ x. Reads sequence x r t) (sym z) (after-sequence p);
    ended = e;
    shallow = i;
  }

  command_item : {u : Bool} {s r : List Token} {t : Items} → Reads (item u) s r t → Ended r → nesting_of t ≤ n
      → is_opening s ≡ false → CommandFirst u s r t n
  unfolding nesting_of
  command_item {u} (number {d = d} {k = k} {s = s} {m = m} {t = t} l p q) e i b =
      let x = after_no_digit q e in
      let y = number_first p x in
      let h = digits_bounds p in
      let v : (number_of (digit d ∷ s)).value ≡ k = ap (λ w. w.value) y in
      record {
        digit_first = λ x. x;
        small = (m, k, digits_wider (omega arith) p, x);
        low = omega (arith, v, l, h.0);
        high = omega (arith, v, h.1);
        behind = here_behind (ap (λ w. w.rest) y) q e i;
        same_rest = refl;
        begins = ap (λ w. command u w (suc (length s)) t) (sym v);
      }
  command_item (once q p) e i b = absurd (true≢false b)
  command_item (times q d p) e i b = absurd (true≢false b)

  group_nesting : (u : Bool) (g t : Items) (k : ℕ) → nesting_of (group u g k t) ≤ n
      → (1 ≤ n) × (nesting_of g ≤ n - 1) × (nesting_of t ≤ n)
  unfolding nesting_of
  group_nesting u g t k i =
      let a = le-max_left (suc (nesting_of g)) (nesting_of t) in
      let b = le-max_right (suc (nesting_of g)) (nesting_of t) in
      (omega (arith, a, i), omega (arith, a, i), omega (arith, b, i))

  -- a group whose count, or what follows it, stands at the start of m
  group_of : {u : Bool} {k : ℕ} {s m q r : List Token} {g t : Items} → Reads sequence s (closing ∷ m) g
      → number_of m ≡ record { value = k; rest = q } → SmallNumber m → Reads after q r t → Ended r
      → nesting_of (group u g k t) ≤ n → GroupFirst u s r (group u g k t) n
  group_of {u} {k} {m = m} {g = g} {t = t} p y w o e i =
      let h = group_nesting u g t k i in
      record {
        deep = h.0;
        inner = record { rest = closing ∷ m; says = g; reads = p; ended = tt; shallow = h.1 };
        outer = m;
        closes = refl;
        small = w;
        behind = here_behind (ap (λ w. w.rest) y) o e h.2;
        same_rest = refl;
        begins = ap (λ w. group u g w t) (sym (ap (λ w. w.value) y));
      }

  group_item : {u : Bool} {s r : List Token} {t : Items} → Reads (item u) s r t → Ended r → nesting_of t ≤ n
      → is_opening s ≡ true → GroupFirst u (drop 1 s) r t n
  group_item (number l p q) e i b = absurd (false≢true b)
  group_item (once {m = m} q p) e i b =
      let x = after_no_digit p e in
      group_of q (no_number m x) (no_small m x) p e i
  group_item (times {n = k} {q = z} q d p) e i b =
      let x = after_no_digit p e in
      group_of q (number_first d x) (z, k, d, x) p e i

  pub here_command : {s : List Token} (h : Here s n) → goes_on s ≡ true → is_blank s ≡ false
      → is_opening (past_minus s) ≡ false → CommandFirst (is_minus s) (past_minus s) h.rest h.says n
  here_command h g b o = go h.reads h.ended h.shallow g b o
    where
      go : {s r : List Token} {t : Items} (p : Reads sequence s r t) (e : Ended r) (i : nesting_of t ≤ n)
          → goes_on s ≡ true → is_blank s ≡ false → is_opening (past_minus s) ≡ false
          → CommandFirst (is_minus s) (past_minus s) r t n
      go {s = []} p e i g b o = absurd (false≢true g)
      go {s = blank ∷ s} p e i g b o = absurd (true≢false b)
      go {s = opening ∷ s} p e i g b o = absurd (true≢false o)
      go {s = closing ∷ s} p e i g b o = absurd (false≢true g)
      go {s = minus ∷ s} nothing e i g b o = absurd e
      go {s = minus ∷ s} (signed p) e i g b o = command_item p e i o
      go {s = minus ∷ s} (plain p) e i g b o = elim p [ ]
      go {s = digit d ∷ s} nothing e i g b o = absurd e
      go {s = digit d ∷ s} (plain p) e i g b o = command_item p e i o
      go {s = other ∷ s} nothing e i g b o = absurd e
      go {s = other ∷ s} (plain p) e i g b o = elim p [ ]

  pub here_group : {s : List Token} (h : Here s n) → is_opening (past_minus s) ≡ true
      → GroupFirst (is_minus s) (drop 1 (past_minus s)) h.rest h.says n
  here_group h o = go h.reads h.ended h.shallow o
    where
      go : {s r : List Token} {t : Items} (p : Reads sequence s r t) (e : Ended r) (i : nesting_of t ≤ n)
          → is_opening (past_minus s) ≡ true → GroupFirst (is_minus s) (drop 1 (past_minus s)) r t n
      go {s = []} p e i o = absurd (false≢true o)
      go {s = blank ∷ s} p e i o = absurd (false≢true o)
      go {s = opening ∷ s} nothing e i o = absurd e
      go {s = opening ∷ s} (plain p) e i o = group_item p e i o
      go {s = closing ∷ s} p e i o = absurd (false≢true o)
      go {s = minus ∷ s} nothing e i o = absurd e
      go {s = minus ∷ s} (signed p) e i o = group_item p e i o
      go {s = minus ∷ s} (plain p) e i o = elim p [ ]
      go {s = digit d ∷ s} p e i o = absurd (false≢true o)
      go {s = other ∷ s} p e i o = absurd (false≢true o)
