-- Laws of the scan that follows the chains from one letter of a word.
use Rattle.std.specs.Prelude.{ℕ, suc, ◌+◌, ◌-◌, ◌<◌, ◌≤◌, ◌≡◌, refl, Bool, not, ◌↔◌, length, get_or}
use Rattle.std.proofs.Common.{arith, add-one, sym, ◌∙◌, subst, true≢false, lt-ltb, le-ltb}
use Rattle.std.proofs.Math.Path.{ap}
use Rattle.std.proofs.Math.Bool.{true, false}
use mathlib.Core.List.{List, [], ◌∷◌}
use Rattle.std.proofs.Math.Seq.{slice, slice_empty, slice-cons}
use Rattle.theory_words.specs.All.{all_at}
use Rattle.theory_words.specs.Filter.{keep_if}
use Rattle.theory_words.specs.Normal.{meets}
use Rattle.theory_schedules.specs.Precedence.{raised}
use Rattle.spec.specs.Byte.{command_of}
use Rattle.spec.specs.Letters.{alphabet}
use Rattle.spec.specs.Precedence.{leads}
use Rattle.input_plan.specs.Lettered.{Lettered}
use Rattle.array_sets.specs.Sets.{Clear, Marks, Meeting, Added, empty}
use Rattle.array_sets.specs.MarksLaws.{marks_none, marks_add, conflicts_table, clear_meets, unclear_meets}
use Rattle.schedule_chains.specs.Following.{Followable, Follow, Followed, apart, reach}

-- what is reached from the letter at place i, before place j: the commands R of the set, and what they reach from m on
pub record Reached (c word : List ℕ) (i j : ℕ) (reached : List ℕ) (m : ℕ) : Type 0 where
  pub R : List ℕ
  pub marks : Marks reached R
  pub onward : raised (alphabet c) (command_of (get_or word i 0) ∷ []) (slice (suc i) j word)
      ≡ raised (alphabet c) R (slice m j word)

pub record Following (word : List ℕ) (conflicts : List (List ℕ)) (i j : ℕ) (reached : List ℕ) (m : ℕ) : Type 0 where
  pub within : m ≤ j
  pub meeting : Meeting conflicts reached
  pub reaches : (c : List ℕ) → Followable c word conflicts → Reached c word i j reached m

module _ {c word : List ℕ} {conflicts : List (List ℕ)} (g : Followable c word conflicts) (i : ℕ) (l : i < length word)
  where
    pub letter_at : Lettered (get_or word i 0)
    letter_at = all_at Lettered word i 0 g.letters l

-- the first letter is put in the set
pub following_start : {c word : List ℕ} {conflicts : List (List ℕ)} → Followable c word conflicts → (i j : ℕ) → i < j
    → i < length word → {none reached : List ℕ} → none ≡ empty
    → Added (command_of (get_or word i 0) - 1) conflicts none reached → Following word conflicts i j reached (i + 1)
following_start {word = word} g i j h l e a = record {
  within = omega arith;
  meeting = a.meeting;
  reaches = λ d f. record {
    R = command_of (get_or word i 0) ∷ [];
    marks =
        let (low, high) = letter_at g i l in
        marks_add (command_of (get_or word i 0)) low high a (subst (λ s. Marks s []) (sym e) marks_none);
    onward = ap (λ (m : ℕ). raised (alphabet d) (command_of (get_or word i 0) ∷ []) (slice m j word)) (sym (add-one i));
  };
}

-- the set after a letter
followed_meeting : {b : ℕ} {conflicts : List (List ℕ)} {s s' : List ℕ} → Meeting conflicts s
    → Followed b conflicts s s' → Meeting conflicts s'
followed_meeting m (apart f) = m
followed_meeting m (reach n a) = a.meeting

-- what the letter at place m, before place j, reaches
module _ {c word : List ℕ} {conflicts : List (List ℕ)} (g : Followable c word conflicts) {j m : ℕ} (h : m < j)
    (l : j < length word) where
  abbrev next : ℕ
  next = get_or word m 0

  range : Lettered next
  range = letter_at g m (omega arith)

  -- it meets the set or not
  behind : {i : ℕ} {s : List ℕ} (r : Reached c word i j s m) (t : Bool)
      → meets (alphabet c) (command_of next) r.R ≡ t
      → raised (alphabet c) (command_of (get_or word i 0) ∷ []) (slice (suc i) j word)
      ≡ raised (alphabet c) (keep_if t (command_of next) r.R) (slice (m + 1) j word)
  unfolding raised
  behind r t e =
      r.onward
      ∙ ap (raised (alphabet c) r.R) (slice-cons m j word 0 h (omega arith))
      ∙ ap (λ (u : Bool). raised (alphabet c) (keep_if u (command_of next) r.R) (slice (suc m) j word)) e
      ∙ ap (λ (n : ℕ). raised (alphabet c) (keep_if t (command_of next) r.R) (slice n j word)) (sym (add-one m))

  reached_again : {i : ℕ} {s s' : List ℕ} → Reached c word i j s m → Followed next conflicts s s'
      → Reached c word i j s' (m + 1)
  unfolding keep_if
  reached_again r (apart f) = record {
    R = r.R;
    marks = r.marks;
    onward = behind r false (clear_meets g.table (command_of next) range.0 range.1 r.marks f);
  }
  reached_again r (reach n a) = record {
    R = command_of next ∷ r.R;
    marks = marks_add (command_of next) range.0 range.1 a r.marks;
    onward = behind r true (unclear_meets g.table (command_of next) range.0 range.1 r.marks n);
  }

module _ {word : List ℕ} {conflicts : List (List ℕ)} {i j : ℕ} {reached : List ℕ} {m : ℕ}
    (s : Following word conflicts i j reached m) where
  pub following_letter : {c : List ℕ} → Followable c word conflicts → m < length word
      → Follow (get_or word m 0) conflicts reached
  following_letter g l = record {
    lettered = letter_at g m l;
    table = conflicts_table g.table;
    meeting = s.meeting;
  }

  -- the letter at place m is followed
  pub following_again : m < j → j < length word → {reached' : List ℕ}
      → Followed (get_or word m 0) conflicts reached reached' → Following word conflicts i j reached' (m + 1)
  following_again h l f = record {
    within = omega arith;
    meeting = followed_meeting s.meeting f;
    reaches = λ d g. reached_again g h l (s.reaches d g) f;
  }

  -- all letters before place j are followed: the letter there is reached if it does not pass the set test
  pub following_end : i < j → j ≤ m → j < length word → {t : Bool}
      → ((t ≡ true) ↔ Clear (get_or conflicts (command_of (get_or word j 0) - 1) []) reached)
      → (c : List ℕ) → Followable c word conflicts → not t ≡ leads c word i j
  unfolding leads raised
  following_end h k l {t} e c g =
      let r = s.reaches c g in
      let same : m ≡ j = omega (arith, s.within) in
      let rest : slice m j word ≡ [] = ap (λ (n : ℕ). slice n j word) same ∙ slice_empty j word in
      let all : raised (alphabet c) (command_of (get_or word i 0) ∷ []) (slice (suc i) j word) ≡ r.R
      = r.onward ∙ ap (raised (alphabet c) r.R) rest in
      rw (lt-ltb i j h, all) (tested t e)
    where
      range : Lettered (get_or word j 0)
      range = letter_at g j l

      tested : (t : Bool) → ((t ≡ true) ↔ Clear (get_or conflicts (command_of (get_or word j 0) - 1) []) reached)
          → not t ≡ meets (alphabet c) (command_of (get_or word j 0)) (s.reaches c g).R
      tested true e = sym (clear_meets g.table _ range.0 range.1 (s.reaches c g).marks (e.0 refl))
      tested false e =
          sym (unclear_meets g.table _ range.0 range.1 (s.reaches c g).marks
          (λ f. true≢false (sym (e.1 f))))

-- a letter does not lead to one that is not behind it
pub leads_not : (c word : List ℕ) (i j : ℕ) → j ≤ i → false ≡ leads c word i j
unfolding leads
leads_not c word i j h = rw (le-ltb i j h)
