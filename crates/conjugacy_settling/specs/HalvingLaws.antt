-- Laws of the scan that splits a word: where a letter goes, and the loop's invariant.
use Rattle.std.specs.Prelude.{ℕ, ◌+◌, ◌-◌, ◌<◌, ◌≤◌, ◌≡◌, true, false, ◌⊎◌, length, take, drop, eqb}
use Rattle.std.proofs.Common.{arith, add-one, ◌∙◌, ap, inl, inr, take-suc, take_all, get_or-append-add, get_or-drop, eq-eqb, ne_eqb}
use Rattle.std.proofs.Math.Path.{refl}
use Rattle.std.proofs.Math.Bool.{or-true}
use mathlib.Core.List.{List, [], ◌∷◌, ◌++◌, append-nil}
use Rattle.std.proofs.Math.ListN.{get_or, length-set}
use Rattle.theory_words.specs.All.{all_at}
use Rattle.input_chains.specs.Conflicts.{Conflicts}
use Rattle.spec.specs.Byte.{command_of}
use Rattle.input_plan.specs.Lettered.{Lettered}
use Rattle.spec.specs.Letters.{alphabet}
use Rattle.theory_conjugacy.specs.Settle.{raise, hit, Split, stop, up}
use Rattle.theory_conjugacy.specs.Settle as Settle
use Rattle.theory_conjugacy.specs.SettleLaws.{raise-append, split_append}
use Rattle.conjugacy_settling.specs.declared.Halves.{Halves}
use Rattle.array_sets.specs.Sets.{Clear, Marks, Meeting}
use Rattle.array_row.specs.Row.{Appended}
use Rattle.array_row.specs.Area.{StartsWith}
use Rattle.array_row.specs.RowLaws.{appended_start, appended_again}
use Rattle.array_sets.specs.MarksLaws.{marks_add, conflicts_table, clear_meets, unclear_meets}
use Rattle.conjugacy_settling.specs.Halving.{Place, line_of, Placed, below, above, Splittable, Halved}

-- where a letter goes

module _ {c : List ℕ} {conflicts : List (List ℕ)} (table : Conflicts c conflicts) {s R : List ℕ} (m : Marks s R)
    (b : ℕ) (range : Lettered b) (apex : ℕ) where
  hit_below : (command_of b ≡ apex → ⊥) → Clear (line_of b conflicts) s
      → hit (alphabet c) apex R b ≡ false
  unfolding hit
  hit_below n f = rw (ne_eqb (command_of b) apex n, clear_meets table (command_of b) range.0 range.1 m f) refl

  hit_above : (command_of b ≡ apex) ⊎ (Clear (line_of b conflicts) s → ⊥)
      → hit (alphabet c) apex R b ≡ true
  unfolding hit
  hit_above (inl e) = rw (eq-eqb (command_of b) apex e) refl
  hit_above (inr n) =
      rw (unclear_meets table (command_of b) range.0 range.1 m n) (or-true (eqb (command_of b) apex))

-- the loop

-- the first i letters are split into p and q
pub record Halfway (c : List ℕ) (apex : ℕ) (R word₀ : List ℕ) (conflicts : List (List ℕ)) (high₀ : List ℕ) (from : ℕ)
    (word raised high : List ℕ) (ends : Halves) (i : ℕ) : Type 0 where
  pub p : List ℕ
  pub q : List ℕ
  pub halves : Split (alphabet c) apex R (take i word₀) p q
  pub lower : StartsWith p word₀ word ends.low
  pub upper : Appended high₀ from q high ends.high
  pub meeting : Meeting conflicts raised
  pub marks : Marks raised (raise (alphabet c) R q)

pub record Halving (word₀ : List ℕ) (apex : ℕ) (conflicts : List (List ℕ)) (raised₀ high₀ : List ℕ) (from : ℕ)
    (word raised high : List ℕ) (ends : Halves) (i : ℕ) : Type 0 where
  pub same_word : length word ≡ length word₀
  pub same_high : length high ≡ length high₀
  pub within : i ≤ length word₀
  pub low : ends.low ≤ i
  pub count : ends.low + ends.high ≡ from + i
  pub half : (c R : List ℕ) → Splittable c R word₀ conflicts raised₀ high₀ from
      → Halfway c apex R word₀ conflicts high₀ from word raised high ends i

module _ {word₀ : List ℕ} {apex : ℕ} {conflicts : List (List ℕ)} {raised₀ high₀ : List ℕ} {from : ℕ} where
  pub halving_start : Halving word₀ apex conflicts raised₀ high₀ from word₀ raised₀ high₀
      (record { low = 0; high = from }) 0
  unfolding raise
  halving_start = record {
    same_word = refl;
    same_high = refl;
    within = omega arith;
    low = omega arith;
    count = omega arith;
    half = λ c R g. record {
      p = [];
      q = [];
      halves = stop;
      lower = appended_start word₀ 0;
      upper = appended_start high₀ from;
      meeting = g.meeting;
      marks = g.marks;
    };
  }

  module _ {word raised high : List ℕ} {ends : Halves} {i : ℕ}
      (h : Halving word₀ apex conflicts raised₀ high₀ from word raised high ends i) where
    -- the letter at i is still in its place
    read_at : {c R : List ℕ} → Splittable c R word₀ conflicts raised₀ high₀ from → get_or word i 0 ≡ get_or word₀ i 0
    read_at {c} {R} g =
        let t = h.half c R g in
        let e : i ≡ length t.p + (i - ends.low) = omega (arith, h.low, t.lower.ends) in
        let f : ends.low + (i - ends.low) ≡ i = omega (arith, h.low) in
        ap (λ (w : List ℕ). get_or w i 0) t.lower.bytes
        ∙ ap (λ (n : ℕ). get_or (t.p ++ drop ends.low word₀) n 0) e
        ∙ get_or-append-add t.p (drop ends.low word₀) (i - ends.low) 0
        ∙ get_or-drop ends.low word₀ (i - ends.low) 0
        ∙ ap (λ (n : ℕ). get_or word₀ n 0) f

    lettered_at : {c R : List ℕ} → Splittable c R word₀ conflicts raised₀ high₀ from → i < length word₀
        → Lettered (get_or word i 0)
    lettered_at g l = rw (read_at g) (all_at Lettered word₀ i 0 g.letters l)

    pub halving_place : {c R : List ℕ} → Splittable c R word₀ conflicts raised₀ high₀ from → i < length word₀
        → Place (get_or word i 0) conflicts raised word high ends
    halving_place {c} {R} g l = record {
      lettered = lettered_at g l;
      table = conflicts_table g.table;
      meeting = (h.half c R g).meeting;
      lower = omega (arith, h.low, h.same_word);
      upper = omega (arith, h.count, h.same_high, g.room);
    }

    -- one letter more is split
    taken : {c R : List ℕ} → Splittable c R word₀ conflicts raised₀ high₀ from → i < length word₀
        → take (i + 1) word₀ ≡ take i word₀ ++ get_or word i 0 ∷ []
    taken g l = rw (add-one, read_at g) (take-suc word₀ i 0 l)

    pub halving_again : {word' raised' high' : List ℕ} {ends' : Halves} → i < length word₀
        → Placed (get_or word i 0) apex conflicts raised word high ends raised' word' high' ends'
        → Halving word₀ apex conflicts raised₀ high₀ from word' raised' high' ends' (i + 1)
    unfolding raise
    halving_again l (below n f) = record {
      same_word = length-set word ends.low (get_or word i 0) ∙ h.same_word;
      same_high = h.same_high;
      within = omega arith;
      low = omega (arith, h.low);
      count = omega (arith, h.count);
      half = λ c R g.
          let t = h.half c R g in
          let b = get_or word i 0 in
          let k = hit_below g.table t.marks b (lettered_at g l) apex n f in
          let s = split_append (alphabet c) apex t.halves (Settle.low k stop) in
          record {
            p = t.p ++ b ∷ [];
            q = t.q;
            halves = rw (taken g l, ← append-nil t.q) s;
            lower = appended_again t.lower b (omega (arith, h.low));
            upper = t.upper;
            meeting = t.meeting;
            marks = t.marks;
          };
    }
    halving_again l (above d a) = record {
      same_word = h.same_word;
      same_high = length-set high ends.high (get_or word i 0) ∙ h.same_high;
      within = omega arith;
      low = omega (arith, h.low);
      count = omega (arith, h.count);
      half = λ c R g.
          let t = h.half c R g in
          let b = get_or word i 0 in
          let r = lettered_at g l in
          let k = hit_above g.table t.marks b r apex d in
          let s = split_append (alphabet c) apex t.halves (up k stop) in
          record {
            p = t.p;
            q = t.q ++ b ∷ [];
            halves = rw (taken g l, ← append-nil t.p) s;
            lower = t.lower;
            upper = appended_again t.upper b (omega (arith, h.count, g.room));
            meeting = a.meeting;
            marks = rw (raise-append (alphabet c) R t.q (b ∷ []))
                (marks_add (command_of b) r.0 r.1 a t.marks);
          };
    }

    pub halving_end : length word₀ ≤ i → (c R : List ℕ) → Splittable c R word₀ conflicts raised₀ high₀ from
        → Halved c apex R word₀ conflicts high₀ from word raised high ends
    halving_end l c R g =
        let t = h.half c R g in
        record {
          p = t.p;
          q = t.q;
          halves = rw (take_all i word₀ l) at t.halves;
          lower = t.lower;
          upper = t.upper;
          meeting = t.meeting;
          marks = t.marks;
        }
