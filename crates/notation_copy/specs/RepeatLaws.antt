-- A word repeated in a row: copies of it are written behind those that stand, at most as many as stand.
use Rattle.std.specs.Prelude.{ℕ, zero, suc, ◌+◌, ◌-◌, ◌*◌, ◌<◌, ◌≤◌, ◌≡◌, refl, List, [], ◌∷◌, ◌++◌, length, take, drop}
use Rattle.std.proofs.Common.{arith, one-mul, mul-le-mul_right, sym, ◌∙◌, ap, subst, append_assoc, append-nil, length-append, length-drop, take-append-drop, length-take-le, take-take, take_at}
use Rattle.std.proofs.Math.Nat.{add-mul}
use Rattle.std.proofs.lemmas.List.{drop_at}
use Rattle.std.proofs.lemmas.Slice.{drop-append-drop}
use Rattle.std.proofs.Math.Seq.{paste}
use Rattle.std.specs.List.{copy_within}
use Rattle.spec.specs.Notation.{repeated}
use Rattle.notation_laws.specs.SizeLaws.{repeated-length}
use Rattle.array_row.specs.Row.{Appended}
use Rattle.array_row.specs.RowLaws.{appended_length, appended_take}

-- so many copies, and more behind them
repeated_more : (n m : ℕ) (x : List ℕ) → repeated (n + m) x ≡ repeated n x ++ repeated m x
unfolding repeated
repeated_more zero m x = let e : 0 + m ≡ m = omega arith in ap (λ z. repeated z x) e
repeated_more (suc n) m x =
    let e : suc n + m ≡ suc (n + m) = omega arith in
    ap (λ z. repeated z x) e
    ∙ ap (λ z. x ++ z) (repeated_more n m x)
    ∙ sym (append_assoc x (repeated n x) (repeated m x))

repeated_once : (x : List ℕ) → repeated 1 x ≡ x
unfolding repeated
repeated_once x = append-nil x

repeated_nothing : (n : ℕ) → repeated n [] ≡ []
unfolding repeated
repeated_nothing zero = refl
repeated_nothing (suc n) = repeated_nothing n

no_length : (x : List ℕ) → length x ≡ 0 → x ≡ []
no_length [] e = refl
no_length (b ∷ x) e = absurd (omega arith)

-- the bytes between two places

abbrev pub between : List ℕ → ℕ → ℕ → List ℕ
between row from to = drop from (take to row)

module _ (row : List ℕ) (from to : ℕ) (h : from ≤ to) (l : to ≤ length row) where
  between-length : length (between row from to) ≡ to - from
  between-length = omega (arith, length-drop from (take to row), length-take-le to row l)

  -- they stand where they stand
  pub between_stands : Appended row from (between row from to) row to
  between_stands = record {
    ends = omega (arith, between-length);
    bytes = sym (
        ap (λ z. (z ++ between row from to) ++ drop to row) (sym (take-take from to row h))
        ∙ ap (λ z. z ++ drop to row) (take-append-drop from (take to row))
        ∙ take-append-drop to row
        );
  }

  -- nothing stands there, however often
  pub repeating_nothing : from ≡ to → (count : ℕ)
      → Appended row from (repeated count (between row from to)) row to
  repeating_nothing e count =
      let n : between row from to ≡ [] = no_length (between row from to) (omega (arith, between-length)) in
      subst (λ z. Appended row from z row to)
      (n ∙ sym (repeated_nothing count) ∙ ap (λ z. repeated count z) (sym n)) between_stands

-- the first copies
first_copies : (x rest : List ℕ) (n m : ℕ) → m ≤ n → take (m * length x) (repeated n x ++ rest) ≡ repeated m x
first_copies x rest n m l =
    let e : m + (n - m) ≡ n = omega arith in
    ap (λ z. take (m * length x) (repeated z x ++ rest)) (sym e)
    ∙ ap (λ z. take (m * length x) (z ++ rest)) (repeated_more m (n - m) x)
    ∙ ap (λ z. take (m * length x) z) (append_assoc (repeated m x) (repeated (n - m) x) rest)
    ∙ take_at (repeated m x) (repeated (n - m) x ++ rest) (m * length x) (repeated-length m x)

module _ {before after word : List ℕ} {at end : ℕ} (a : Appended before at word after end) where
  -- a part pasted behind a word is appended to it
  pub appended_paste : (s part : List ℕ) (n : ℕ) → take n s ≡ part → length part ≡ n → end + n ≤ length before
      → Appended before at (word ++ part) (paste after end s n) (end + n)
  appended_paste s part n e m l =
      let p : List ℕ = take at before ++ word in
      let head : length p ≡ end
      = omega (arith, length-append (take at before) word, length-take-le at before (omega (arith, a.ends)), a.ends) in
      let tail : drop (end + n) after ≡ drop (end + n) before
      = ap (λ z. drop (end + n) z) a.bytes ∙ drop-append-drop end before p (end + n) (omega arith) head in
      record {
        ends = omega (arith, a.ends, length-append word part, m);
        bytes =
            ap (λ z. take end after ++ z ++ drop (end + n) after) e
            ∙ ap (λ z. z ++ part ++ drop (end + n) after) (appended_take a (omega arith))
            ∙ ap (λ z. p ++ part ++ z) tail
            ∙ ap (λ z. z ++ drop (end + n) before) (append_assoc (take at before) word part);
      }

-- the first n copies stand
pub record Repeating (before : List ℕ) (from to count : ℕ) (row : List ℕ) (n : ℕ) : Type 0 where
  pub low : 1 ≤ n
  pub high : n ≤ count
  pub appended : Appended before from (repeated n (between before from to)) row (from + n * (to - from))

module _ (before : List ℕ) (from to count : ℕ) (h : from ≤ to) (once : 1 ≤ count)
    (room : from + count * (to - from) ≤ length before) where
  -- the row with m copies more
  abbrev pub pasted : List ℕ → ℕ → ℕ → List ℕ
  pasted row n m = copy_within row from (from + m * (to - from)) (from + n * (to - from))

  -- so many copies, at most all, have room
  copies_fit : (n : ℕ) → n ≤ count → from + n * (to - from) ≤ length before
  copies_fit n l = omega (arith, mul-le-mul_right (to - from) l, room)

  -- the first copy's last place is in the row
  repeating_to : to ≤ length before
  repeating_to = omega (arith, one-mul (to - from), copies_fit 1 once)

  pub repeating_start : Repeating before from to count before 1
  repeating_start =
      let x : List ℕ = between before from to in
      let e : to ≡ from + 1 * (to - from) = omega (arith, one-mul (to - from)) in
      record {
        low = omega arith;
        high = once;
        appended =
            subst (λ z. Appended before from z before (from + 1 * (to - from))) (sym (repeated_once x))
            (subst (λ z. Appended before from x before z) e (between_stands before from to h repeating_to));
      }

  module _ {row : List ℕ} {n : ℕ} (c : Repeating before from to count row n) where
    -- the copies to copy stand where they stood
    copied : (m : ℕ) → m ≤ n → take (m * (to - from)) (drop from row) ≡ repeated m (between before from to)
    copied m l =
        let x : List ℕ = between before from to in
        let w : List ℕ = repeated n x in
        let rest : List ℕ = drop (from + n * (to - from)) before in
        let p : length (take from before) ≡ from = length-take-le from before (omega (arith, repeating_to)) in
        let k : length x ≡ to - from = between-length before from to h repeating_to in
        ap (λ z. take (m * (to - from)) (drop from z)) (c.appended.bytes ∙ append_assoc (take from before) w rest)
        ∙ ap (λ z. take (m * (to - from)) z) (drop_at (take from before) (w ++ rest) from p)
        ∙ ap (λ z. take (m * z) (w ++ rest)) (sym k)
        ∙ first_copies x rest n m l

    pub repeating_length : length row ≡ length before
    repeating_length = appended_length c.appended (copies_fit n c.high)

    -- the place behind m copies more
    behind : (m : ℕ) → from + n * (to - from) + m * (to - from) ≡ from + (n + m) * (to - from)
    behind m = omega (arith, add-mul n m (to - from))

    module _ (m : ℕ) (l : m ≤ n) (fits : n + m ≤ count) where
      pub repeating_source : from + m * (to - from) ≤ length row
      repeating_source = omega (arith, repeating_length, copies_fit m (omega arith))

      pub repeating_room : from + n * (to - from) + (from + m * (to - from) - from) ≤ length row
      repeating_room = omega (arith, repeating_length, behind m, copies_fit (n + m) fits)

      pub repeating_again : Repeating before from to count (pasted row n m) (n + m)
      repeating_again =
          let x : List ℕ = between before from to in
          let k : length x ≡ to - from = between-length before from to h repeating_to in
          let size : length (repeated m x) ≡ m * (to - from) = repeated-length m x ∙ ap (λ z. m * z) k in
          let room : from + n * (to - from) + m * (to - from) ≤ length before
          = omega (arith, behind m, copies_fit (n + m) fits) in
          let some : m * (to - from) ≡ from + m * (to - from) - from = omega arith in
          let a : Appended before from (repeated n x ++ repeated m x) (pasted row n m)
          (from + n * (to - from) + m * (to - from))
          = subst (λ z. Appended before from (repeated n x ++ repeated m x)
          (paste row (from + n * (to - from)) (drop from row) z) (from + n * (to - from) + m * (to - from))) some
          (appended_paste c.appended (drop from row) (repeated m x) (m * (to - from)) (copied m l) size room) in
          record {
            low = omega (arith, c.low);
            high = fits;
            appended =
                subst (λ z. Appended before from z (pasted row n m) (from + (n + m) * (to - from)))
                (sym (repeated_more n m x))
                (subst (λ z. Appended before from (repeated n x ++ repeated m x) (pasted row n m) z) (behind m) a);
          }
