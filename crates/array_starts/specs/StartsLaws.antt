-- The loop that counts the rows before the first conflict: a row is free as long as it conflicts with none so far.
use Rattle.std.specs.Prelude.{ℕ, ◌+◌, ◌-◌, ◌<◌, ◌≤◌, ◌≡◌, List, [], length, get_or}
use Rattle.std.proofs.Common.{sym, ◌∙◌, ap, arith}
use Rattle.std.proofs.Math.Decide.{dec_lt}
use Rattle.std.proofs.lemmas.Nat.{and_le_l, and_le_r}
use Rattle.spec.specs.Answers.{yes_no}
use Rattle.spec.specs.Conflict.{conflict}
use Rattle.input_chains.specs.Conflicts.{Conflicts}
use Rattle.input_chains.specs.MarkingLaws.{yes_low}
use Rattle.spec.specs.AlphabetLaws.{conflict_refl, conflict_sym}
use Rattle.array_counts.specs.Blank.{blank_heights, Ones}
use Rattle.array_counts.specs.BlankLaws.{blank_zero, blank_many}
use Rattle.array_counts.specs.First.{NoneBelow, FirstWith}
use Rattle.array_counts.specs.Heights.{Both, Changed, without}
use Rattle.array_starts.specs.Starts.{Starts}

without_left : (f n : ℕ) → without f n ≤ f
unfolding without
without_left f n = and_le_l f (1 - n)

without_right : (f n : ℕ) → without f n ≤ 1 - n
unfolding without
without_right f n = and_le_r f (1 - n)

-- the first j lines have been taken
pub record Counting (table : List (List ℕ)) (counts free : List ℕ) (j : ℕ) : Type 0 where
  pub within : j ≤ 24
  pub many : length counts ≡ 24
  pub wide : length free ≡ 24
  pub few : (k : ℕ) → k < 24 → get_or free k 0 ≤ 1
  pub low : (k : ℕ) → k < 24 → get_or counts k 0 ≤ j
  pub on : (k : ℕ) → k < 24 → 0 < get_or free k 0 → get_or counts k 0 ≡ j
  pub apart : (k : ℕ) → k < 24 → (i : ℕ) → i < get_or counts k 0 → get_or (get_or table i []) k 0 ≡ 0

pub counting_start : {table : List (List ℕ)} {counts free : List ℕ} → counts ≡ blank_heights → Ones free
    → Counting table counts free 0
counting_start {counts = counts} e o = record {
  within = omega arith;
  many = ap length e ∙ blank_many;
  wide = o.many;
  few = λ k l. omega (arith, o.each k l);
  low = λ k l. omega (arith, zero k l);
  on = λ k l h. zero k l;
  apart = λ k l i h. absurd (omega (arith, zero k l));
}
  where
    zero : (k : ℕ) → k < 24 → get_or counts k 0 ≡ 0
    zero k l = ap (λ s. get_or s k 0) e ∙ blank_zero k l

module _ {table : List (List ℕ)} {counts free : List ℕ} {j : ℕ} (n : Counting table counts free j) (l : j < 24) where
  -- the lines hold zeros and ones
  pub counting_line : ((c : List ℕ) × Conflicts c table) → {k : ℕ} → k < 24
      → Both (λ f n. n ≤ 1) free (get_or table k [])
  counting_line (c, t) {k} m = record {
    many = n.wide;
    wide = t.wide k m;
    holds = λ i h. omega (arith, t.tells k i m h, yes_low (conflict c (k + 1) (i + 1)));
  }

  module _ {left : List ℕ} (a : Changed without (get_or table j []) free left) where
    left_one : (k : ℕ) → k < 24 → get_or left k 0 ≤ 1
    left_one k h =
        omega (arith, a.each k h, without_left (get_or free k 0) (get_or (get_or table j []) k 0), n.few k h)

    pub counting_room : Both (λ h n. h + n < 65536) counts left
    counting_room = record {
      many = n.many;
      wide = a.kept ∙ n.wide;
      holds = λ i h. omega (arith, n.low i h, left_one i h);
    }

    pub counting_again : {more : List ℕ} → Changed ◌+◌ left counts more → Counting table more left (j + 1)
    counting_again {more} b = record {
      within = omega arith;
      many = b.kept ∙ n.many;
      wide = a.kept ∙ n.wide;
      few = left_one;
      low = λ k h. omega (arith, b.each k h, n.low k h, left_one k h);
      on = λ k h p. omega (arith, b.each k h, left_one k h, n.on k h (was_free k h p));
      apart = λ k h i m. side k h i m (dec_lt i (get_or counts k 0));
    }
      where
        was_free : (k : ℕ) → k < 24 → 0 < get_or left k 0 → 0 < get_or free k 0
        was_free k h p = omega (arith, a.each k h, without_left (get_or free k 0) (get_or (get_or table j []) k 0))

        side : (k : ℕ) → k < 24 → (i : ℕ) → i < get_or more k 0 → Dec (i < get_or counts k 0)
            → get_or (get_or table i []) k 0 ≡ 0
        side k h i m (yes o) = n.apart k h i o
        side k h i m (no o) =
            let p : 0 < get_or left k 0 = omega (arith, b.each k h) in
            let e : i ≡ j = omega (arith, b.each k h, left_one k h, n.on k h (was_free k h p)) in
            ap (λ r. get_or (get_or table r []) k 0) e
            ∙ omega (arith, a.each k h, without_right (get_or free k 0) (get_or (get_or table j []) k 0))

pub counting_end : {table : List (List ℕ)} {counts free : List ℕ} {j : ℕ} → Counting table counts free j
    → Starts table counts
counting_end n = record { within = λ k l. omega (arith, n.low k l); apart = n.apart }

-- what is told of the rows below the start of row k is as it was when a letter of row k has changed the rows that
-- conflict with it: false of each, if k was the first of which it was true
module _ {c : List ℕ} {table : List (List ℕ)} {starts : List ℕ} {k : ℕ} (t : Conflicts c table)
    (s : Starts table starts) (l : k < 24) where
  start_low : get_or starts k 0 ≤ k
  start_low = go (dec_lt k (get_or starts k 0))
    where
      go : Dec (k < get_or starts k 0) → get_or starts k 0 ≤ k
      go (yes h) = omega (arith, s.apart k l k h, t.tells k k l l, ap yes_no (conflict_refl c (k + 1)))
      go (no h) = omega arith

  start_apart : (i : ℕ) → i < get_or starts k 0 → get_or (get_or table k []) i 0 ≡ 0
  start_apart i h =
      let m : i < 24 = omega (arith, start_low) in
      t.tells k i l m ∙ ap yes_no (conflict_sym c (k + 1) (i + 1)) ∙ sym (t.tells i k m l) ∙ s.apart k l i h

  pub start_passed : {P Q : ℕ → Type 0} → FirstWith P k
      → ((i : ℕ) → i < k → get_or (get_or table k []) i 0 ≡ 0 → Q i → P i) → NoneBelow Q (get_or starts k 0)
  start_passed f same = record {
    within = s.within k l;
    none = λ i h q.
        let b : i < k = omega (arith, start_low) in
        f.before i b (same i b (start_apart i h) q);
  }
