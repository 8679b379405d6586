-- Laws of words of four numbers: a word's numbers are its digits in base 65,536.
use Rattle.std.specs.Prelude.{ℕ, ◌+◌, ◌-◌, ◌*◌, ◌<◌, ◌≤◌, ◌/◌, ◌%◌, ◌≡◌, refl, Bool, List, length, get_or, set, replicate}
use Rattle.std.proofs.Common.{arith, below_more, sym, ◌∙◌, ap, length-set, get_or-set_same, get_or-set_other}
use Rattle.std.proofs.Math.Decide.{ℕ_discrete}
use Rattle.std.proofs.lemmas.List.{get_or-replicate}
use Rattle.array_counts.specs.Heights.{Both, Changed}
use Rattle.array_words.specs.Words.{four, word_at, Fits, Combined, Spread, WordsOf, Written}
use Rattle.array_words.specs.Words.{Small, Held, Sole, Unless, Changeable}

-- digits

low : (a x : ℕ) → a < 65536 → (a + 65536 * x) % 65536 ≡ a
low a x l = omega arith

high : (a x : ℕ) → a < 65536 → (a + 65536 * x) / 65536 ≡ x
high a x l = omega arith

alone : (a : ℕ) → a < 65536 → a % 65536 ≡ a
alone a l = omega arith

module _ {first last : List ℕ} {i w : ℕ} (s : Spread first i w last) {a b c d : ℕ} (e : w ≡ four a b c d) where
  -- a word's digits are written
  pub digits : a < 65536 → b < 65536 → c < 65536 → d < 65536
      → (get_or last i 0 ≡ a) × (get_or last (i + 1) 0 ≡ b) × (get_or last (i + 2) 0 ≡ c) × (get_or last (i + 3) 0 ≡ d)
  digits la lb lc ld =
      let over : ℕ → ℕ = λ x. x / 65536 in
      let rest : ℕ → ℕ = λ x. x % 65536 in
      let p : over w ≡ b + 65536 * (c + 65536 * d) = ap over e ∙ high a _ la in
      let q : over (over w) ≡ c + 65536 * d = ap over p ∙ high b _ lb in
      let r : over (over (over w)) ≡ d = ap over q ∙ high c _ lc in (
        s.one ∙ ap rest e ∙ low a _ la,
        s.two ∙ ap rest p ∙ low b _ lb,
        s.three ∙ ap rest q ∙ low c _ lc,
        s.last_one ∙ ap rest r ∙ alone d ld,
      )

-- four numbers written one after the other
module _ (xs : List ℕ) (i w : ℕ) (l : i + 3 < 24) (many : length xs ≡ 24) where
  abbrev one : List ℕ
  one = set xs i (w % 65536)

  abbrev two : List ℕ
  two = set one (i + 1) (w / 65536 % 65536)

  abbrev three : List ℕ
  three = set two (i + 2) (w / 65536 / 65536 % 65536)

  abbrev all : List ℕ
  all = set three (i + 3) (w / 65536 / 65536 / 65536 % 65536)

  pub spread_set : Spread xs i w all
  spread_set =
      let p : length one ≡ 24 = simp length-set many in
      let q : length two ≡ 24 = simp length-set many in
      let r : length three ≡ 24 = simp length-set many in
      let a : (j : ℕ) → j < i → get_or all j 0 ≡ get_or xs j 0 =
      λ j k. get_or-set_other three (i + 3) j _ 0 (λ e. omega arith) ∙ get_or-set_other two (i + 2) j _ 0 (λ e. omega arith)
      ∙ get_or-set_other one (i + 1) j _ 0 (λ e. omega arith) ∙ get_or-set_other xs i j _ 0 (λ e. omega arith) in
      record {
        kept = simp length-set;
        before = a;
        one = get_or-set_other three (i + 3) i _ 0 (λ e. omega arith)
            ∙ get_or-set_other two (i + 2) i _ 0 (λ e. omega arith)
            ∙ get_or-set_other one (i + 1) i _ 0 (λ e. omega arith)
            ∙ get_or-set_same xs i _ 0 (omega arith);
        two = get_or-set_other three (i + 3) (i + 1) _ 0 (λ e. omega arith)
            ∙ get_or-set_other two (i + 2) (i + 1) _ 0 (λ e. omega arith) ∙ get_or-set_same one (i + 1) _ 0 (omega arith);
        three = get_or-set_other three (i + 3) (i + 2) _ 0 (λ e. omega arith)
            ∙ get_or-set_same two (i + 2) _ 0 (omega arith);
        last_one = get_or-set_same three (i + 3) _ 0 (omega arith);
      }

-- what holds of all 24 numbers, of the four of a word
four_of : (P : ℕ → Type 0) → ((m : ℕ) → m < 24 → P m) → (i : ℕ) → i < 6
    → P (4 * i) × P (4 * i + 1) × P (4 * i + 2) × P (4 * i + 3)
four_of P h i l = (
  h (4 * i) (omega arith),
  h (4 * i + 1) (omega arith),
  h (4 * i + 2) (omega arith),
  h (4 * i + 3) (omega arith),
)

-- four indices more
four_more : (P : ℕ → Type 0) (n : ℕ) → ((k : ℕ) → k < n → P k) → P n → P (n + 1) → P (n + 2) → P (n + 3)
    → (k : ℕ) → k < n + 4 → P k
four_more P n below p q r s k l =
    below_more P (n + 3)
    (λ j m. below_more P (n + 2)
    (λ j m. below_more P (n + 1) (below_more P n below p) q j (omega arith)) r j (omega arith))
    s k (omega arith)

-- the loop that writes: the numbers of the words below i are written

pub record Writing (words first now : List ℕ) (i : ℕ) : Type 0 where
  pub within : i ≤ 6
  pub kept : length now ≡ length first
  pub told : (g : ℕ → ℕ) → WordsOf g words → (m : ℕ) → m < 4 * i → get_or now m 0 ≡ g m

pub writing_start : {words first : List ℕ} → Writing words first first 0
writing_start = record { within = omega arith; kept = refl; told = λ g o m l. absurd (omega arith) }

module _ {words first now : List ℕ} {i : ℕ} (w : Writing words first now i) where
  pub writing_again : {next : List ℕ} → i < 6 → Spread now (4 * i) (get_or words i 0) next
      → Writing words first next (i + 1)
  writing_again {next} l s = record {
    within = omega arith;
    kept = s.kept ∙ w.kept;
    told = λ g o m k.
        let (a, b, c, d) = four_of (λ m. g m < 65536) o.small i l in
        let (p, q, r, t) = digits s (o.each i l) a b c d in
        four_more (λ n. get_or next n 0 ≡ g n) (4 * i) (λ n h. s.before n h ∙ w.told g o n h) p q r t m (omega arith);
  }

  pub writing_end : 6 ≤ i → Written words first now
  writing_end l = record { kept = w.kept; told = λ g o m k. w.told g o m (omega arith) }

-- the loop that combines

pub record ByWord (R : ℕ → ℕ → ℕ → Type 0) (line first now : List ℕ) (i : ℕ) : Type 0 where
  pub kept : length now ≡ length first
  pub below : (j : ℕ) → j < i → R (get_or first j 0) (word_at line (4 * j)) (get_or now j 0)
  pub above : (j : ℕ) → i ≤ j → get_or now j 0 ≡ get_or first j 0

-- the numbers combined, where their words are

abbrev at : (ℕ → ℕ → ℕ) → List ℕ → List ℕ → ℕ → ℕ
at f numbers line m = f (get_or numbers m 0) (get_or line m 0)

module _ (f : ℕ → ℕ → ℕ) {line numbers held words : List ℕ} (h : Held numbers held) (d : Combined f line held words)
    (small : (m : ℕ) → m < 24 → at f numbers line m < 65536)
    (each : (i : ℕ) → i < 6 → let g = at f numbers line in
    f (word_at numbers (4 * i)) (word_at line (4 * i)) ≡ four (g (4 * i)) (g (4 * i + 1)) (g (4 * i + 2)) (g (4 * i + 3)))
  where
    combined : WordsOf (λ m. f (get_or numbers m 0) (get_or line m 0)) words
    combined = record {
      small = small;
      each = λ i l. d.each i l ∙ ap (λ (x : ℕ). f x (word_at line (4 * i))) (h.those.each i l) ∙ each i l;
    }

    module _ {last : List ℕ} (w : Written words numbers last) where
      pub changed : Changed f line numbers last
      changed = record { kept = w.kept; each = λ m l. w.told _ combined m l }

      pub still_held : Held last words
      still_held =
          let e : (m : ℕ) → m < 24 → f (get_or numbers m 0) (get_or line m 0) ≡ get_or last m 0 =
          λ m l. sym (w.told _ combined m l) in
          record {
            many = w.kept ∙ h.many;
            six = d.kept ∙ h.six;
            those = record {
              small = λ m l. rw (← e m l) (small m l);
              each = λ i l.
                  rw (
                    ← e (4 * i) (omega arith),
                    ← e (4 * i + 1) (omega arith),
                    ← e (4 * i + 2) (omega arith),
                    ← e (4 * i + 3) (omega arith),
                  ) (combined.each i l);
            };
          }

-- the words of numbers

none : (i : ℕ) → i < 6 → get_or (replicate {A = ℕ} 6 0) i 0 ≡ 0
none i l = get_or-replicate 6 i 0 0 l

module _ {numbers : List ℕ} (s : Small numbers) where
  pub words_fit : Fits (λ w n. w + n < 18446744073709551616) (replicate 6 0) numbers
  words_fit = record {
    six = refl;
    wide = s.many;
    holds = λ i l. omega (arith, none i l, four_of (λ m. get_or numbers m 0 < 65536) s.small i l);
  }

  pub words_held : {words : List ℕ} → Combined ◌+◌ numbers (replicate 6 0) words → Held numbers words
  words_held d = record {
    many = s.many;
    six = d.kept;
    those = record { small = s.small; each = λ i l. omega (arith, d.each i l, none i l) };
  }

-- numbers lifted

module _ {line numbers held : List ℕ} (b : Both (λ h n. h + n < 65536) numbers line) (h : Held numbers held) where
  abbrev Low : ℕ → Type 0
  Low m = get_or numbers m 0 + get_or line m 0 < 65536

  pub lift_fits : Fits (λ w n. w + n < 18446744073709551616) held line
  lift_fits = record {
    six = h.six;
    wide = b.wide;
    holds = λ i l. omega (arith, h.those.each i l, four_of Low b.holds i l);
  }

  pub lifted : {words last : List ℕ} → Combined ◌+◌ line held words → Written words numbers last
      → Changed ◌+◌ line numbers last × Held last words
  lifted d w = (
    changed ◌+◌ h d b.holds (λ i l. omega arith) w,
    still_held ◌+◌ h d b.holds (λ i l. omega arith) w,
  )

-- numbers lowered

module _ {line numbers held : List ℕ} (b : Both (λ h n. n ≤ h) numbers line) (h : Held numbers held) where
  abbrev Less : ℕ → Type 0
  Less m = get_or line m 0 ≤ get_or numbers m 0

  pub lower_fits : Fits (λ w n. n ≤ w) held line
  lower_fits = record {
    six = h.six;
    wide = b.wide;
    holds = λ i l. omega (arith, h.those.each i l, four_of Less b.holds i l);
  }

  less : (m : ℕ) → m < 24 → get_or numbers m 0 - get_or line m 0 < 65536
  less m l = omega (arith, h.those.small m l)

  digit_wise : (i : ℕ) → i < 6 → word_at numbers (4 * i) - word_at line (4 * i)
      ≡ four (get_or numbers (4 * i) 0 - get_or line (4 * i) 0) (get_or numbers (4 * i + 1) 0 - get_or line (4 * i + 1) 0)
      (get_or numbers (4 * i + 2) 0 - get_or line (4 * i + 2) 0) (get_or numbers (4 * i + 3) 0 - get_or line (4 * i + 3) 0)
  digit_wise i l = omega (arith, four_of Less b.holds i l)

  pub lowered : {words last : List ℕ} → Combined ◌-◌ line held words → Written words numbers last
      → Changed ◌-◌ line numbers last × Held last words
  lowered d w = (changed ◌-◌ h d less digit_wise w, still_held ◌-◌ h d less digit_wise w)

-- a sole line changes one number

pub sole_changed : (f : ℕ → ℕ → ℕ) → ((h : ℕ) → f h 0 ≡ h) → {k : ℕ} {line : List ℕ} (numbers : List ℕ) → k < 24
    → length numbers ≡ 24 → Sole k line → Changed f line numbers (set numbers k (f (get_or numbers k 0) 1))
sole_changed f zero {k} {line} numbers l many s = record {
  kept = length-set numbers k _;
  each = λ i h. go i h (ℕ_discrete i k);
}
  where
    go : (i : ℕ) → i < 24 → Dec (i ≡ k)
        → get_or (set numbers k (f (get_or numbers k 0) 1)) i 0 ≡ f (get_or numbers i 0) (get_or line i 0)
    go i h (yes e) =
        rw (e, s.own) (get_or-set_same numbers k (f (get_or numbers k 0) 1) 0 (omega arith))
    go i h (no n) = rw (s.others i h n, zero (get_or numbers i 0)) (get_or-set_other numbers k i _ 0 n)

-- the words hold the numbers once these are changed
pub still_changeable : {k : ℕ} {sole : Bool} {table : List (List ℕ)} {numbers held last words : List ℕ}
    → Changeable k sole table numbers held → Unless sole (Held last words) → Changeable k sole table last words
still_changeable s h = record { within = s.within; tall = s.tall; told = s.told; kept = h }
