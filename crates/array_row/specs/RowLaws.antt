-- Laws of words appended in a row: one byte more, what the row then begins with, and the letters of that.
use Rattle.std.specs.Prelude.{ℕ, suc, ◌+◌, ◌-◌, ◌<◌, ◌≤◌, ◌≡◌, List, [], ◌∷◌, ◌++◌, length, get_or, take, drop, set}
use Rattle.std.proofs.Common.{arith, add-one, sym, ◌∙◌, ap, subst, append_assoc, append-nil, length-append, length-drop, take-append-drop, length-take-le, drop-cons, take_at, take-suc, take_all}
use Rattle.std.proofs.lemmas.List.{set_at}
use Rattle.std.proofs.Math.Nat.{sub-zero, sub_self}
use Rattle.std.proofs.Math.Seq.{drop-length, append_snoc}
use Rattle.theory_words.specs.GroupLaws.{undo_onto}
use Rattle.spec.specs.Byte.{undone, undo_of}
use Rattle.array_row.specs.Row.{Appended}

pub appended_start : (row : List ℕ) (at : ℕ) → Appended row at [] row at
appended_start row at = record {
  ends = omega arith;
  bytes = sym (ap (λ (r : List ℕ). r ++ drop at row) (append-nil (take at row)) ∙ take-append-drop at row);
}

module _ {before after word : List ℕ} {at end : ℕ} (a : Appended before at word after end) where
  -- how long the row's part up to the end is
  head_length : at ≤ length before → length (take at before ++ word) ≡ end
  head_length h = omega (arith, length-append (take at before) word, length-take-le at before h, a.ends)

  pub appended_length : end ≤ length before → length after ≡ length before
  appended_length h =
      ap length a.bytes
      ∙ omega (
        arith,
        length-append (take at before ++ word) (drop end before),
        head_length (omega (arith, a.ends)),
        length-drop end before,
      )

  pub appended_again : (b : ℕ) → end < length before → Appended before at (word ++ b ∷ []) (set after end b) (end + 1)
  appended_again b h = record {
    ends = omega (arith, a.ends, length-append word (b ∷ []));
    bytes =
        let p : List ℕ = take at before ++ word in
        let rest : List ℕ = drop (suc end) before in
        ap (λ (r : List ℕ). set r end b) (a.bytes ∙ ap (λ (r : List ℕ). p ++ r) (drop-cons before end 0 h))
        ∙ set_at p (get_or before end 0) rest b end (head_length (omega (arith, a.ends)))
        ∙ sym (append_snoc p b rest)
        ∙ ap (λ (r : List ℕ). r ++ rest) (append_assoc (take at before) word (b ∷ []))
        ∙ ap (λ (n : ℕ). take at before ++ (word ++ b ∷ []) ++ drop n before) (sym (add-one end));
  }

  -- what the row begins with
  pub appended_take : end ≤ length before → take end after ≡ take at before ++ word
  appended_take h =
      ap (take end) a.bytes
      ∙ take_at (take at before ++ word) (drop end before) end (head_length (omega (arith, a.ends)))

-- an end that is written in another way
appended_at : {before after word : List ℕ} {at end last : ℕ} → end ≡ last → Appended before at word after end
    → Appended before at word after last
appended_at {before} {after} {word} {at} e a = subst (Appended before at word after) e a

-- the loop that appends: the first i bytes of the word are appended

pub record Copied (before : List ℕ) (at : ℕ) (word row : List ℕ) (i : ℕ) : Type 0 where
  pub within : i ≤ length word
  pub appended : Appended before at (take i word) row (at + i)

pub copied_start : (row : List ℕ) (at : ℕ) (word : List ℕ) → Copied row at word row 0
copied_start row at word = record {
  within = omega arith;
  appended = appended_at (omega arith) (appended_start row at);
}

module _ {before word row : List ℕ} {at i : ℕ} (room : at + length word ≤ length before)
    (c : Copied before at word row i) where
  pub copied_length : length row ≡ length before
  copied_length = appended_length c.appended (omega (arith, c.within))

  pub copied_room : i < length word → at + i < length row
  copied_room h = omega (arith, copied_length)

  pub copied_again : i < length word → Copied before at word (set row (at + i) (get_or word i 0)) (i + 1)
  copied_again h =
      let e : take (i + 1) word ≡ take i word ++ get_or word i 0 ∷ [] = rw (add-one i, take-suc word i 0 h) in
      record {
        within = omega arith;
        appended = rw e (appended_at (omega arith) (appended_again c.appended (get_or word i 0) (omega arith)));
      }

  pub copied_whole : length word ≤ i → Appended before at word row (at + length word)
  copied_whole h =
      let e : i ≡ length word = omega (arith, c.within) in
      appended_at (omega (arith, e)) (rw (take_all i word h) at c.appended)

-- the loop that undoes: the last n bytes of the word are appended, backwards and undone

pub record Undoing (before : List ℕ) (at : ℕ) (word row : List ℕ) (n : ℕ) : Type 0 where
  pub within : n ≤ length word
  pub appended : Appended before at (undo_of (drop (length word - n) word)) row (at + n)

pub undoing_start : (row : List ℕ) (at : ℕ) (word : List ℕ) → Undoing row at word row 0
undoing_start row at word = record {
  within = omega arith;
  appended = rw (sub-zero (length word), drop-length word) (appended_at (omega arith) (appended_start row at));
}

module _ {before word row : List ℕ} {at n : ℕ} (room : at + length word ≤ length before)
    (c : Undoing before at word row n) where
  pub undoing_length : length row ≡ length before
  undoing_length = appended_length c.appended (omega (arith, c.within))

  pub undoing_again : n < length word
      → Undoing before at word (set row (at + n) (undone (get_or word (length word - 1 - n) 0))) (n + 1)
  undoing_again h =
      let i : ℕ = length word - 1 - n in
      let b : ℕ = get_or word i 0 in
      let e : suc i ≡ length word - n = omega arith in
      let f : length word - (n + 1) ≡ i = omega arith in
      let t : drop i word ≡ b ∷ drop (length word - n) word
      = drop-cons word i 0 (omega arith) ∙ ap (λ (m : ℕ). b ∷ drop m word) e in
      record {
        within = omega arith;
        appended = rw (f, t, undo_onto undone (drop (length word - n) word) (undone b ∷ []))
            (appended_at (omega arith) (appended_again c.appended (undone b) (omega arith)));
      }

  pub undoing_whole : length word ≤ n → Appended before at (undo_of word) row (at + length word)
  undoing_whole h =
      let e : n ≡ length word = omega (arith, c.within) in
      rw (e, sub_self (length word)) at c.appended
