-- A part of a row undone where it stands: two places move towards each other, and the bytes between them are left.
use Rattle.std.specs.Prelude.{ℕ, suc, ◌+◌, ◌-◌, ◌<◌, ◌≤◌, ◌≡◌, refl, List, [], ◌∷◌, ◌++◌, length, get_or, take, drop, set}
use Rattle.std.proofs.Common.{arith, sym, ◌∙◌, ap, append_assoc, length-append, length-drop, take-append-drop, length-take-le, drop_at, take-take}
use Rattle.std.proofs.lemmas.List.{set_at, get_or_at}
use Rattle.std.proofs.Math.Seq.{append_snoc}
use Rattle.theory_words.specs.Group.{undo_by}
use Rattle.theory_words.specs.GroupLaws.{undo_onto, undo-append, undo_length}
use Rattle.spec.specs.Byte.{undone, undo_of}
use Rattle.array_row.specs.Row.{Undone}
use Rattle.array_row.specs.RowLaws.{appended_length, appended_take}

-- the last byte of a word that is not empty

record Snoc (w : List ℕ) : Type 0 where
  front : List ℕ
  last : ℕ
  whole : w ≡ front ++ last ∷ []

snoc : (a : ℕ) (w : List ℕ) → Snoc (a ∷ w)
snoc a [] = record { front = []; last = a; whole = refl }
snoc a (b ∷ w) =
    let s = snoc b w in
    record { front = a ∷ s.front; last = s.last; whole = ap (λ (z : List ℕ). a ∷ z) s.whole }

-- the row is `head`, what is left and `tail`, and what is left undone between them is the goal
pub record Turning (goal row : List ℕ) (i j : ℕ) : Type 0 where
  pub head : List ℕ
  pub mid : List ℕ
  pub tail : List ℕ
  pub parts : row ≡ head ++ (mid ++ tail)
  pub first : length head ≡ i
  pub left : length mid ≡ j - i
  pub rest : goal ≡ head ++ undo_by undone mid tail

abbrev pub goal_of : List ℕ → ℕ → ℕ → List ℕ
goal_of row from to = take from row ++ undo_of (drop from (take to row)) ++ drop to row

pub turning_start : (row : List ℕ) (from to : ℕ) → from ≤ to → to ≤ length row
    → Turning (goal_of row from to) row from to
turning_start row from to h l = record {
  head = take from row;
  mid = drop from (take to row);
  tail = drop to row;
  parts = sym (
      sym (append_assoc (take from row) (drop from (take to row)) (drop to row))
      ∙ ap (λ (z : List ℕ). (z ++ drop from (take to row)) ++ drop to row) (sym (take-take from to row h))
      ∙ ap (λ (z : List ℕ). z ++ drop to row) (take-append-drop from (take to row))
      ∙ take-append-drop to row
      );
  first = length-take-le from row (omega arith);
  left = omega (arith, length-drop from (take to row), length-take-le to row l);
  rest =
      let mid = drop from (take to row) in
      append_assoc (take from row) (undo_of mid) (drop to row)
      ∙ ap (λ (z : List ℕ). take from row ++ z) (sym (undo_onto undone mid (drop to row)));
}

-- the bytes at both places, exchanged and undone
abbrev pub exchanged : List ℕ → ℕ → ℕ → List ℕ
exchanged row i k = set (set row i (undone (get_or row k 0))) k (undone (get_or row i 0))

-- two places
exchange_two : (head f tail : List ℕ) (a l i k : ℕ) → length head ≡ i → k ≡ suc (i + length f)
    → exchanged (head ++ a ∷ (f ++ l ∷ tail)) i k ≡ (head ++ undone l ∷ []) ++ (f ++ undone a ∷ tail)
exchange_two head f tail a l i k h e =
    let over : (b : ℕ) (t : List ℕ) → head ++ b ∷ (f ++ t) ≡ (head ++ b ∷ f) ++ t
    = λ b t. sym (append_assoc head (b ∷ f) t) in
    let far : (b : ℕ) → length (head ++ b ∷ f) ≡ k = λ b. omega (arith, length-append head (b ∷ f)) in
    let p : get_or (head ++ a ∷ (f ++ l ∷ tail)) i 0 ≡ a = get_or_at head a (f ++ l ∷ tail) 0 i h in
    let q : get_or (head ++ a ∷ (f ++ l ∷ tail)) k 0 ≡ l
    = ap (λ (z : List ℕ). get_or z k 0) (over a (l ∷ tail)) ∙ get_or_at (head ++ a ∷ f) l tail 0 k (far a) in
    rw (p, q, set_at head a (f ++ l ∷ tail) (undone l) i h, over (undone l) (l ∷ tail))
    (set_at (head ++ undone l ∷ f) l tail (undone a) k (far (undone l))
    ∙ sym (over (undone l) (undone a ∷ tail)) ∙ sym (append_snoc head (undone l) (f ++ undone a ∷ tail)))

-- one place
exchange_one : (head tail : List ℕ) (a i k : ℕ) → length head ≡ i → k ≡ i
    → exchanged (head ++ a ∷ tail) i k ≡ (head ++ undone a ∷ []) ++ tail
exchange_one head tail a i k h e =
    let n : length head ≡ k = omega arith in
    rw (get_or_at head a tail 0 i h, get_or_at head a tail 0 k n, set_at head a tail (undone a) i h)
    (set_at head (undone a) tail (undone a) k n ∙ sym (append_snoc head (undone a) tail))

turning_step : {goal row : List ℕ} {i j : ℕ} (head mid tail : List ℕ) → row ≡ head ++ (mid ++ tail) → length head ≡ i
    → length mid ≡ j - i → goal ≡ head ++ undo_by undone mid tail → i < j
    → Turning goal (exchanged row i (j - 1)) (i + 1) (j - 1)
turning_step head [] tail p h l r lt = absurd (omega arith)
turning_step {i = i} {j} head (a ∷ []) tail p h l r lt = record {
  head = head ++ undone a ∷ [];
  mid = [];
  tail = tail;
  parts = ap (λ (z : List ℕ). exchanged z i (j - 1)) p ∙ exchange_one head tail a i (j - 1) h (omega arith);
  first = omega (arith, length-append head (undone a ∷ []));
  left = omega arith;
  rest = r ∙ sym (append_snoc head (undone a) tail);
}
turning_step {i = i} {j} head (a ∷ b ∷ w) tail p h l r lt =
    let s = snoc b w in
    let f = s.front in
    let e = s.whole in
    let n : length (b ∷ w) ≡ suc (length f)
    = ap length e ∙ omega (arith, length-append f (s.last ∷ [])) in
    record {
      head = head ++ undone s.last ∷ [];
      mid = f;
      tail = undone a ∷ tail;
      parts = ap (λ (z : List ℕ). exchanged z i (j - 1))
          (p ∙ ap (λ (z : List ℕ). head ++ a ∷ z)
          (ap (λ (z : List ℕ). z ++ tail) e ∙ append_snoc f s.last tail))
          ∙ exchange_two head f tail a s.last i (j - 1) h (omega arith);
      first = omega (arith, length-append head (undone s.last ∷ []));
      left = omega arith;
      rest = r ∙ ap (λ (z : List ℕ). head ++ z)
          (ap (λ (z : List ℕ). undo_by undone z (undone a ∷ tail)) e
          ∙ undo-append undone f (s.last ∷ []) (undone a ∷ tail))
          ∙ sym (append_snoc head (undone s.last) (undo_by undone f (undone a ∷ tail)));
    }

module _ {goal row : List ℕ} {i j : ℕ} (t : Turning goal row i j) where
  -- both places are in the row
  pub turning_fits : i < j → j ≤ length row
  turning_fits h = omega (
    arith,
    ap length t.parts,
    length-append t.head (t.mid ++ t.tail),
    length-append t.mid t.tail,
    t.first,
    t.left,
  )

  pub turning_length : length row ≡ length goal
  turning_length = omega (
    arith,
    ap length t.parts,
    ap length t.rest,
    length-append t.head (t.mid ++ t.tail),
    length-append t.mid t.tail,
    length-append t.head (undo_by undone t.mid t.tail),
    undo_length undone t.mid t.tail,
  )

  pub turning_again : i < j → Turning goal (exchanged row i (j - 1)) (i + 1) (j - 1)
  turning_again h = turning_step t.head t.mid t.tail t.parts t.first t.left t.rest h

  pub turning_end : (i < j → ⊥) → row ≡ goal
  turning_end h = go t.mid t.left t.parts t.rest
    where
      go : (mid : List ℕ) → length mid ≡ j - i → row ≡ t.head ++ (mid ++ t.tail)
          → goal ≡ t.head ++ undo_by undone mid t.tail → row ≡ goal
      go [] l p r = p ∙ sym r
      go (a ∷ m) l p r = absurd (h (omega arith))

module _ (row : List ℕ) (from to : ℕ) (h : from ≤ to) (l : to ≤ length row) where
  pub goal_undone : Undone row from to (goal_of row from to)
  goal_undone = record {
    ends =
        let mid = drop from (take to row) in
        omega (arith, undo_length undone mid [], length-drop from (take to row), length-take-le to row l);
    bytes = refl;
  }

  pub goal_length : length (goal_of row from to) ≡ length row
  goal_length = appended_length goal_undone l

-- what the row then begins with
pub undone_take : {before after : List ℕ} {from to : ℕ} → Undone before from to after → (z : List ℕ)
    → take to before ≡ take from before ++ z → to ≤ length before → take to after ≡ take from before ++ undo_of z
undone_take {before} {from = from} u z e l =
    let n = length-take-le from before (omega (arith, u.ends)) in
    let d = ap (drop from) e ∙ drop_at (take from before) z from n in
    appended_take u l ∙ ap (λ (y : List ℕ). take from before ++ undo_of y) d
