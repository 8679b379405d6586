-- Laws of the bytes that pass, and of lines 7 and 8.
use Rattle.std.specs.Prelude.{ℕ, zero, suc, ◌+◌, ◌-◌, ◌≤◌, ◌<◌, ◌≡◌, refl, Bool, true, false, not, List, [], ◌∷◌, ◌++◌, ◌↔◌, length, get_or, leb, ltb, eqb}
use Rattle.std.proofs.Common.{ap, arith, leb-true, le-leb, lt-ltb, le-ltb, eq-eqb, ne_eqb, ltb-false}
use Rattle.std.proofs.Math.Bool.{or-true}
use Rattle.std.proofs.Math.Option.{Option, none, some, some-ne-none}
use Rattle.std.proofs.lemmas.Bool.{not-false}
use Rattle.theory_words.specs.BoolLaws.{true_same}
use Rattle.spec.specs.Table.{line_at, line, holds, Answer, refused, given, first_line, or_else}
use Rattle.spec_laws.specs.SearchLaws.{search-none, search_all}
use Rattle.spec.specs.Plan.{is_command, passes, first_bad, plan_lines, Passing}
use Rattle.spec.specs.AlphabetLaws.{Side, under, amid, over, side, within_in, within_under, within_over}

-- 0 to N pass
pub passes_low : (n b : ℕ) → b ≤ n → passes n b ≡ true
unfolding passes is_command
passes_low n b h = go (side 1 n b)
  where
    go : Side 1 n b → passes n b ≡ true
    go (under l) = rw (eq-eqb b 0 (omega arith))
    go (amid l k) = rw (within_in 1 n b l k) (or-true (eqb b 0))
    go (over k) = absurd (omega arith)

-- above N, 128 and less do not pass, and of the others those up to 128 + N do
pub passes_mid : (n b : ℕ) → n < b → b ≤ 128 → passes n b ≡ false
unfolding passes is_command
passes_mid n b l h = rw (ne_eqb b 0 (omega arith), within_over 1 n b l, within_under 129 (128 + n) b (omega arith))

leb_same : (a b c d : ℕ) → (a ≤ b → c ≤ d) → (c ≤ d → a ≤ b) → leb a b ≡ leb c d
leb_same a b c d f g =
    true_same (leb a b) (leb c d) (λ e. le-leb c d (f (leb-true a b e))) (λ e. le-leb a b (g (leb-true c d e)))

pub passes_high : (n b : ℕ) → n < b → 128 < b → passes n b ≡ leb (b - 128) n
unfolding passes is_command
passes_high n b l h =
    rw (ne_eqb b 0 (omega arith), within_over 1 n b l, le-leb 129 b h)
    (leb_same b (128 + n) (b - 128) n (λ k. omega arith) (λ k. omega arith))

-- which of lines 7 and 8 holds first, and what a check then answers
module _ (p limit n : ℕ) (v : List ℕ) where
  abbrev answer : Answer ℕ
  answer = or_else (first_line (plan_lines p limit n v)) (length v)

  pub answer_long : limit < length v → refused (line 7 p 0) ≡ answer
  answer_long h = rw (lt-ltb limit (length v) h)

  pub answer_byte : {o : Option ℕ} {i : ℕ} → length v ≤ limit → o ≡ first_bad n v → o ≡ some i
      → refused (line 8 p i) ≡ answer
  answer_byte h f e = rw (le-ltb limit (length v) h, ← f, e)

  pub answer_pass : {o : Option ℕ} → length v ≤ limit → o ≡ first_bad n v → o ≡ none → given (length v) ≡ answer
  answer_pass h f e = rw (le-ltb limit (length v) h, ← f, e)

-- what a check that passes tells of the plan

pub passing_append : (n : ℕ) (u v : List ℕ) → Passing n u → Passing n v → Passing n (u ++ v)
passing_append n [] v h k = k
passing_append n (b ∷ u) v h k = (h.0, passing_append n u v h.1 k)

pub passing_right : (n : ℕ) (u v : List ℕ) → Passing n (u ++ v) → Passing n v
passing_right n [] v h = h
passing_right n (b ∷ u) v h = passing_right n u v h.1

pub passing_at : (n : ℕ) (v : List ℕ) → Passing n v → (i : ℕ) → i < length v → passes n (get_or v i 0) ≡ true
passing_at n [] h i l = absurd (omega arith)
passing_at n (b ∷ v) h zero l = h.0
passing_at n (b ∷ v) h (suc i) l = passing_at n v h.1 i (omega arith)

pub passing_by : (n : ℕ) (v : List ℕ) → ((i : ℕ) → i < length v → passes n (get_or v i 0) ≡ true) → Passing n v
passing_by n [] f = tt
passing_by n (b ∷ v) f = (f 0 (omega arith), passing_by n v (λ i l. f (suc i) (omega arith)))

pub bad_none : (n : ℕ) (v : List ℕ) → first_bad n v ≡ none → Passing n v
bad_none n v e =
    passing_by n v (λ i l.
    not-false (passes n (get_or v i 0)) (search-none _ (length v) 0 e i (omega arith) (omega arith)))

pub passing_bad : (n : ℕ) (v : List ℕ) → Passing n v → first_bad n v ≡ none
passing_bad n v h = search_all _ (length v) 0 (λ i l k. ap not (passing_at n v h i (omega arith)))

-- no line holds: the plan is short enough, and every byte passes
pub lines_pass : (p limit n : ℕ) (v : List ℕ)
    → (first_line (plan_lines p limit n v) ≡ none) ↔ ((length v ≤ limit) × Passing n v)
lines_pass p limit n v = (
  open_line (ltb limit (length v)) (first_bad n v) refl refl,
  λ h. rw (le-ltb limit (length v) h.0, passing_bad n v h.1),
)
  where
    open_line : (t : Bool) (o : Option ℕ) → ltb limit (length v) ≡ t → first_bad n v ≡ o
        → first_line (holds t (line 7 p 0) ∷ line_at 8 p (λ i. i) o ∷ []) ≡ none → (length v ≤ limit) × Passing n v
    open_line true o e f h = absurd (some-ne-none _ h)
    open_line false none e f h = (ltb-false limit (length v) e, bad_none n v f)
    open_line false (some i) e f h = absurd (some-ne-none _ h)
