-- Laws of the loop that numbers the letters of a word from left to right.
use Prim.Native.Nat.{ℕ, suc, ◌+◌, ◌-◌, ◌<◌, ◌≤◌, max}
use Rattle.std.proofs.Common.{arith, add-one, ◌∙◌, drop_of_length-le, drop-cons}
use Rattle.std.specs.Prelude.{◌≡◌, refl, Bool, true, false, drop, set}
use Rattle.std.proofs.Math.Path.{sym, ap}
use mathlib.Core.List.{List, [], ◌∷◌, ◌++◌, append-nil}
use Rattle.std.proofs.Math.ListN.{length, get_or}
use Rattle.std.proofs.Math.Seq.{append_snoc}
use Rattle.theory_words.specs.All.{all_at}
use Rattle.spec.specs.Answers.{yes_no}
use Rattle.spec.specs.Byte.{command_of}
use Rattle.spec.specs.Conflict.{conflict}
use Rattle.spec.specs.AlphabetLaws.{conflict_sym}
use Rattle.spec.specs.Slots.{Slotted, slotted, above_step, above, slots_after, slots}
use Rattle.spec_laws.specs.DifferentLaws.{largest}
use Rattle.spec_laws.specs.SlotsLaws.{in_use-largest}
use Rattle.input_chains.specs.ConflictsLaws.{line_tells}
use Rattle.input_chains.specs.MarkingLaws.{yes_low}
use Rattle.input_plan.specs.Lettered.{Lettered}
use Rattle.array_counts.specs.Blank.{blank_heights}
use Rattle.array_counts.specs.BlankLaws.{blank_zero, blank_many}
use Rattle.array_counts.specs.Heights.{Both, Changed, at_least}
use Rattle.array_row.specs.Area.{StartsWith}
use Rattle.array_row.specs.RowLaws.{appended_start, appended_length, appended_again}
use Rattle.schedule_slots.specs.Numbering.{Numberable, SlotsOf}

-- the letters below i have the slots `done`, the rest is numbered behind them, `left` has for each command the smallest
-- slot that they leave it, and n is one more than the largest
pub record SoFar (c word before numbers left : List ℕ) (n i : ℕ) : Type 0 where
  pub earlier : List Slotted
  pub done : List ℕ
  pub written : StartsWith done before numbers i
  pub onward : slots c word ≡ done ++ slots_after c earlier (drop i word)
  pub leaves : (k : ℕ) → k < 24 → get_or left k 0 ≡ above c (k + 1) earlier
  pub largest-done : n ≡ largest done

pub record Numbering (word : List ℕ) (conflicts : List (List ℕ)) (before numbers left : List ℕ) (n i : ℕ)
    : Type 0 where
  pub within : i ≤ length word
  pub many : length left ≡ 24
  pub low : (k : ℕ) → k < 24 → get_or left k 0 ≤ i
  pub few : n ≤ i
  pub so_far : (c : List ℕ) → Numberable c word conflicts before → SoFar c word before numbers left n i

module _ {word : List ℕ} {conflicts : List (List ℕ)} {before : List ℕ} where
  pub numbering_start : {left : List ℕ} → left ≡ blank_heights → Numbering word conflicts before before left 0 0
  unfolding above largest
  numbering_start {left} e = record {
    within = omega arith;
    many = ap length e ∙ blank_many;
    low = λ k h. omega (arith, zero k h);
    few = omega arith;
    so_far = λ c g. record {
      earlier = [];
      done = [];
      written = appended_start before 0;
      onward = refl;
      leaves = zero;
      largest-done = refl;
    };
  }
    where
      zero : (k : ℕ) → k < 24 → get_or left k 0 ≡ 0
      zero k h = ap (λ (s : List ℕ). get_or s k 0) e ∙ blank_zero k h

-- a number at_least as a letter with this slot raises it

raised_is : (t : Bool) (s h : ℕ) → at_least (s + 1) h (yes_no t) ≡ above_step t s h
raised_is true s h = omega arith
raised_is false s h = omega arith

above_low : (t : Bool) (s h : ℕ) {i : ℕ} → s ≤ i → h ≤ i → above_step t s h ≤ i + 1
above_low true s h l m = omega arith
above_low false s h l m = omega arith

largest_snoc : (ns : List ℕ) (s : ℕ) → largest (ns ++ s ∷ []) ≡ max (largest ns) (s + 1)
unfolding largest
largest_snoc [] s = omega arith
largest_snoc (n ∷ ns) s = omega (arith, largest_snoc ns s)

-- the letter at place i of a word that can be numbered, and the line of its conflicts
module _ {c word : List ℕ} {conflicts : List (List ℕ)} {before : List ℕ} (g : Numberable c word conflicts before)
    (i : ℕ) (l : i < length word) where
  abbrev command : ℕ
  command = command_of (get_or word i 0)

  abbrev line : List ℕ
  line = get_or conflicts (command - 1) []

  pub numbering_letter : Lettered (get_or word i 0)
  numbering_letter = all_at Lettered word i 0 g.letters l

  tells : (j : ℕ) → j < 24 → get_or line j 0 ≡ yes_no (conflict c command (j + 1))
  tells = line_tells g.table command numbering_letter.0 numbering_letter.1

  -- the slot that is left to it
  abbrev slot : List ℕ → ℕ
  slot left = get_or left (command - 1) 0

  -- the letter takes it
  module _ {left left' : List ℕ} (u : Changed (at_least (slot left + 1)) line left left') where
    raised_to : (j : ℕ) → j < 24
        → get_or left' j 0 ≡ above_step (conflict c command (j + 1)) (slot left) (get_or left j 0)
    raised_to j h =
        u.each j h
        ∙ ap (at_least (slot left + 1) (get_or left j 0)) (tells j h)
        ∙ raised_is (conflict c command (j + 1)) (slot left) (get_or left j 0)

    so_far_again : {numbers : List ℕ} {n : ℕ} → SoFar c word before numbers left n i
        → SoFar c word before (set numbers i (slot left)) left' (max n (slot left + 1)) (i + 1)
    unfolding slots_after above
    so_far_again p =
        let s : ℕ = slot left in
        let k : command - 1 + 1 ≡ command = omega (arith, numbering_letter) in
        let e : s ≡ above c command p.earlier =
        p.leaves (command - 1) (omega (arith, numbering_letter)) ∙ ap (λ (j : ℕ). above c j p.earlier) k in
        let more : List Slotted = slotted command s ∷ p.earlier in
        record {
          earlier = more;
          done = p.done ++ s ∷ [];
          written = appended_again p.written s (omega (arith, g.room));
          onward =
              p.onward
              ∙ ap (λ (w : List ℕ). p.done ++ slots_after c p.earlier w) (drop-cons word i 0 l)
              ∙ ap (λ (a : ℕ). p.done ++ a ∷ slots_after c (slotted command a ∷ p.earlier) (drop (suc i) word)) (sym e)
              ∙ sym (append_snoc p.done s (slots_after c more (drop (suc i) word)))
              ∙ ap (λ (m : ℕ). p.done ++ s ∷ [] ++ slots_after c more (drop m word)) (sym (add-one i));
          leaves = λ j h.
              raised_to j h
              ∙ ap (λ (t : Bool). above_step t s (get_or left j 0)) (conflict_sym c command (j + 1))
              ∙ ap (above_step (conflict c (j + 1) command) s) (p.leaves j h);
          largest-done = rw p.largest-done (sym (largest_snoc p.done s));
        }

  module _ {numbers left : List ℕ} {n : ℕ} (s : Numbering word conflicts before numbers left n i) where
    pub numbering_room : i < length numbers
    numbering_room =
        omega (arith, g.room, appended_length (s.so_far c g).written (omega (arith, g.room)))

    pub numbering_slot : slot left ≤ i
    numbering_slot = s.low (command - 1) (omega (arith, numbering_letter))

    pub numbering_line : Both (λ h m. m ≤ 1) left line
    numbering_line = record {
      many = s.many;
      wide = g.table.wide (command - 1) (omega (arith, numbering_letter));
      holds = λ j h. omega (arith, tells j h, yes_low (conflict c command (j + 1)));
    }

-- the next letter is numbered
pub numbering_again : {c word : List ℕ} {conflicts : List (List ℕ)} {before numbers left left' : List ℕ} {n n' i : ℕ}
    → Numberable c word conflicts before → (l : i < length word)
    → (s : Numbering word conflicts before numbers left n i)
    → (let k = command_of (get_or word i 0) - 1 in
    Changed (at_least (get_or left k 0 + 1)) (get_or conflicts k []) left left' → n' ≡ max n (get_or left k 0 + 1)
    → Numbering word conflicts before (set numbers i (get_or left k 0)) left' n' (i + 1))
numbering_again {c} {word} {left = left} {left'} {i = i} g l s u e =
    rw e record {
      within = omega arith;
      many = u.kept ∙ s.many;
      low = λ k h.
          omega (
            arith,
            raised_to g i l u k h,
            above_low (conflict c (command_of (get_or word i 0)) (k + 1)) _ _ (numbering_slot g i l s) (s.low k h),
          );
      few = omega (arith, s.few, numbering_slot g i l s);
      so_far = λ d f. so_far_again f i l u (s.so_far d f);
    }

module _ {word : List ℕ} {conflicts : List (List ℕ)} {before numbers left : List ℕ} {n i : ℕ}
    (s : Numbering word conflicts before numbers left n i) where
  -- the area for the slots is as long as it was
  pub numbering_long : {c : List ℕ} → Numberable c word conflicts before → length numbers ≡ length before
  numbering_long {c} g = appended_length (s.so_far c g).written (omega (arith, g.room, s.within))

  pub numbering_end : length word ≤ i → (c : List ℕ) → Numberable c word conflicts before
      → SlotsOf c word before numbers n
  unfolding slots_after
  numbering_end h c g =
      let p = s.so_far c g in
      let e : i ≡ length word = omega (arith, s.within) in
      let all : slots c word ≡ p.done =
      p.onward
      ∙ ap (λ (w : List ℕ). p.done ++ slots_after c p.earlier w) (drop_of_length-le word h)
      ∙ append-nil p.done in
      record {
        written = rw (all, ← e) p.written;
        in_use = p.largest-done ∙ ap largest (sym all) ∙ sym (in_use-largest c word);
      }
