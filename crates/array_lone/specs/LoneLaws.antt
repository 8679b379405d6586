-- Laws of sums of bits, and of lines of conflicts whose sum is 1.
use Rattle.std.specs.Prelude.{ℕ, ◌+◌, ◌<◌, ◌≤◌, ◌≡◌, Bool, true, List, [], length, get_or, take, drop, sum}
use Rattle.std.proofs.Common.{arith, add-zero, ◌∙◌, ap, length-take-le, length-drop, get_or-take}
use Rattle.std.proofs.lemmas.List.{get_or-drop}
use Rattle.std.proofs.lemmas.List.Elements.{All-from_get_or}
use Rattle.std.proofs.lemmas.List.Sums.{sum_by-le, sum_by-take-drop, get_or-le-sum_by}
use Rattle.std.proofs.Math.Decide.{dec_lt}
use Rattle.spec.specs.Answers.{yes_no}
use Rattle.spec.specs.Conflict.{conflict}
use Rattle.spec.specs.AlphabetLaws.{conflict_refl}
use Rattle.input_chains.specs.Conflicts.{Conflicts}
use Rattle.input_chains.specs.MarkingLaws.{yes_low}
use Rattle.array_words.specs.Words.{Sole, Held, Unless, Changeable}
use Rattle.array_lone.specs.Lone.{Bits, Lone}

-- sums

-- of the first n bits at most n
pub sum_most : {line : List ℕ} → Bits line → (n : ℕ) → n ≤ 24 → sum (take n line) ≤ n
sum_most {line} b n l =
    let long : length (take n line) ≡ n = length-take-le n line (omega (arith, b.wide)) in
    let low = All-from_get_or (λ x. x ≤ 1) (take n line) 0
    (λ j h. omega (arith, get_or-take n line j 0 (omega (arith, long)), b.low j (omega (arith, long)))) in
    omega (arith, sum_by-le (λ x. x) 1 (take n line) low, long)

pub bits_fit : {line : List ℕ} → Bits line → sum line < 65536
bits_fit {line} b =
    let low = All-from_get_or (λ x. x ≤ 1) line 0 (λ j h. b.low j (omega (arith, b.wide))) in
    omega (arith, sum_by-le (λ x. x) 1 line low, b.wide)

-- a sum is at least any two of its numbers
sum_two : (line : List ℕ) (i j : ℕ) → i < j → j < length line → get_or line i 0 + get_or line j 0 ≤ sum line
sum_two line i j k l =
    omega (
      arith,
      sum_by-take-drop (λ x. x) line j,
      get_or-le-sum_by (λ x. x) (take j line) i 0 (omega (arith, length-take-le j line)),
      get_or-take j line i 0 k,
      get_or-le-sum_by (λ x. x) (drop j line) 0 0 (omega (arith, length-drop j line)),
      get_or-drop j line 0 0 ∙ ap (λ n. get_or line n 0) (add-zero j),
    )

module _ {c : List ℕ} {table : List (List ℕ)} (t : Conflicts c table) {k : ℕ} (l : k < 24) where
  pub line_bits : Bits (get_or table k [])
  line_bits = record {
    wide = t.wide k l;
    low = λ j h. omega (arith, t.tells k j l h, yes_low (conflict c (k + 1) (j + 1)));
  }

  -- a line whose sum is 1
  pub line_sole : sum (get_or table k []) ≡ 1 → Sole k (get_or table k [])
  line_sole s = record { own = own; others = λ j h n. go j h n (dec_lt j k) }
    where
      own : get_or (get_or table k []) k 0 ≡ 1
      own = t.tells k k l l ∙ ap yes_no (conflict_refl c (k + 1))

      go : (j : ℕ) → j < 24 → ¬ (j ≡ k) → Dec (j < k) → get_or (get_or table k []) j 0 ≡ 0
      go j h n (yes o) = omega (arith, s, sum_two (get_or table k []) j k o (omega (arith, t.wide k l)), own)
      go j h n (no o) = omega (arith, s, sum_two (get_or table k []) k j (omega arith) (omega (arith, t.wide k l)), own)

  pub lone_changeable : {sole : Bool} {numbers held : List ℕ} → (sole ≡ true → Lone table)
      → Unless sole (Held numbers held) → Changeable k sole table numbers held
  lone_changeable s h = record { within = l; tall = t.tall; told = λ e. s e k l; kept = h }
