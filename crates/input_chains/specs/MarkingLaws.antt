-- Laws of marking: what each cell holds after a pair and a list of commands are marked or noted.
use Rattle.std.specs.Prelude.{ℕ, zero, suc, ◌+◌, ◌-◌, ◌≤◌, ◌<◌, ◌≡◌, refl, Bool, true, false, ◌||◌, ◌&&◌, length, get_or, set}
use Rattle.std.proofs.Math.Decide.{ℕ_discrete}
use Rattle.std.proofs.Common.{arith, sym, ◌∙◌, length-set, get_or-set_same, get_or-set_other, eq-eqb, ne_eqb}
use Rattle.std.proofs.Math.Path.{ap}
use Rattle.std.proofs.Math.Bool.{and-true, and-false}
use mathlib.Core.List.{List, [], ◌∷◌}
use Rattle.std.proofs.Math.Dec.{eqb}
use Rattle.spec.specs.Answers.{yes_no}
use Rattle.spec.specs.Catalogue.{stands}
use Rattle.input_chains.specs.Marking.{cell, Shape, put, pair, pairs, note, notes, marked_if}

-- a cell that is marked if a test says so
abbrev pub over : Bool → ℕ → ℕ
over true v = 1
over false v = v

pub over_yes : (p q : Bool) → over p (yes_no q) ≡ yes_no (p || q)
over_yes true q = refl
over_yes false q = refl

pub yes_low : (t : Bool) → yes_no t ≤ 1
yes_low true = omega arith
yes_low false = omega arith

module _ (rows : List (List ℕ)) (s : Shape rows) (i j : ℕ) (hi : i < 24) (hj : j < 24) where
  row_same : get_or (put rows i j) i [] ≡ set (get_or rows i []) j 1
  row_same = get_or-set_same rows i (set (get_or rows i []) j 1) [] (omega (arith, s.tall))

  row_other : (k : ℕ) → (k ≡ i → ⊥) → get_or (put rows i j) k [] ≡ get_or rows k []
  row_other k h = get_or-set_other rows i k (set (get_or rows i []) j 1) [] h

  pub put_shape : Shape (put rows i j)
  put_shape =
      record {
        tall = length-set rows i (set (get_or rows i []) j 1) ∙ s.tall;
        wide = λ k h. wide k h (ℕ_discrete k i);
      }
    where
      wide : (k : ℕ) → k < 24 → Dec (k ≡ i) → length (get_or (put rows i j) k []) ≡ 24
      wide k h (yes e) = rw (e, row_same, length-set) (s.wide i hi)
      wide k h (no e) = rw (row_other k e) (s.wide k h)

  pub put-cell : (k l : ℕ) → cell (put rows i j) k l ≡ over (eqb k i && eqb l j) (cell rows k l)
  put-cell k l = go (ℕ_discrete k i) (ℕ_discrete l j)
    where
      go : Dec (k ≡ i) → Dec (l ≡ j) → cell (put rows i j) k l ≡ over (eqb k i && eqb l j) (cell rows k l)
      go (yes e) (yes f) =
          rw (eq-eqb k i e, eq-eqb l j f, e, f, row_same)
          (get_or-set_same (get_or rows i []) j 1 0 (omega (arith, s.wide i hi)))
      go (yes e) (no f) = rw (eq-eqb k i e, ne_eqb l j f, e, row_same) (get_or-set_other (get_or rows i []) j l 1 0 f)
      go (no e) (yes f) = rw (ne_eqb k i e, row_other k e)
      go (no e) (no f) = rw (ne_eqb k i e, row_other k e)

eqb_pred : (k b : ℕ) → 1 ≤ b → eqb k (b - 1) ≡ eqb (k + 1) b
eqb_pred k b h = go (ℕ_discrete (k + 1) b)
  where
    go : Dec (k + 1 ≡ b) → eqb k (b - 1) ≡ eqb (k + 1) b
    go (yes e) = eq-eqb k (b - 1) (omega arith) ∙ sym (eq-eqb (k + 1) b e)
    go (no e) = ne_eqb k (b - 1) (omega arith) ∙ sym (ne_eqb (k + 1) b e)

-- what cell (k, l) holds after a pair of commands is marked
module _ (rows : List (List ℕ)) (s : Shape rows) (a b : ℕ) (ha : (1 ≤ a) × (a ≤ 24)) (hb : (1 ≤ b) × (b ≤ 24)) where
  first_put_shape : Shape (put rows (a - 1) (b - 1))
  first_put_shape = put_shape rows s (a - 1) (b - 1) (omega arith) (omega arith)

  pub pair_shape : Shape (pair rows a b)
  pair_shape = put_shape (put rows (a - 1) (b - 1)) first_put_shape (b - 1) (a - 1) (omega arith) (omega arith)

  pub pair-cell : (k l : ℕ) (q : Bool) → cell rows k l ≡ yes_no q
      → cell (pair rows a b) k l
      ≡ yes_no ((eqb (k + 1) b && eqb (l + 1) a) || ((eqb (k + 1) a && eqb (l + 1) b) || q))
  pair-cell k l q e =
      put-cell (put rows (a - 1) (b - 1)) first_put_shape (b - 1) (a - 1) (omega arith) (omega arith) k l
      ∙ rw (
        put-cell rows s (a - 1) (b - 1) (omega arith) (omega arith) k l,
        e,
        over_yes,
        over_yes,
        eqb_pred k a ha.0,
        eqb_pred l a ha.0,
        eqb_pred k b hb.0,
        eqb_pred l b hb.0,
      )

gather : (kb sk lb sl q : Bool) → (sk || (sl || (kb || (lb || q)))) ≡ ((kb || sk) || ((lb || sl) || q))
gather true true lb sl q = refl
gather true false lb true q = refl
gather true false lb false q = refl
gather false true lb sl q = refl
gather false false true true q = refl
gather false false true false q = refl
gather false false false sl q = refl

gather_and : (u v kb sk lb sl q : Bool)
    → ((v && sk) || ((u && sl) || ((kb && v) || ((u && lb) || q))))
    ≡ ((v && (kb || sk)) || ((u && (lb || sl)) || q))
gather_and true true kb sk lb sl q = rw (and-true kb) (gather kb sk lb sl q)
gather_and true false kb sk lb sl q = rw (and-false kb) (gather false false lb sl q)
gather_and false true kb sk lb sl q = rw (and-true kb) (gather kb sk false false q)
gather_and false false kb sk lb sl q = rw (and-false kb)

-- all numbers of a list are commands that the rows have room for
abbrev pub Fit : List ℕ → Type 0
Fit [] = Unit {0}
Fit (b ∷ bs) = ((1 ≤ b) × (b ≤ 24)) × Fit bs

-- what cell (k, l) holds after a list of commands is marked against command a
module _ (a : ℕ) (ha : (1 ≤ a) × (a ≤ 24)) where
  pub pairs_shape : (bs : List ℕ) (rows : List (List ℕ)) → Fit bs → Shape rows → Shape (pairs rows a bs)
  unfolding pairs
  pairs_shape [] rows f s = s
  pairs_shape (b ∷ bs) rows f s = pairs_shape bs (pair rows a b) f.1 (pair_shape rows s a b ha f.0)

  pub pairs-cell : (bs : List ℕ) (rows : List (List ℕ)) → Fit bs → Shape rows
      → (k l : ℕ) (q : Bool) → cell rows k l ≡ yes_no q
      → cell (pairs rows a bs) k l
      ≡ yes_no ((eqb (l + 1) a && stands (k + 1) bs) || ((eqb (k + 1) a && stands (l + 1) bs) || q))
  unfolding pairs stands
  pairs-cell [] rows f s k l q e = e ∙ simp and-false
  pairs-cell (b ∷ bs) rows f s k l q e =
      pairs-cell bs (pair rows a b) f.1 (pair_shape rows s a b ha f.0) k l
      ((eqb (k + 1) b && eqb (l + 1) a) || ((eqb (k + 1) a && eqb (l + 1) b) || q))
      (pair-cell rows s a b ha f.0 k l q e)
      ∙ ap yes_no
      (gather_and (eqb (k + 1) a) (eqb (l + 1) a) (eqb (k + 1) b) (stands (k + 1) bs) (eqb (l + 1) b)
      (stands (l + 1) bs) q)

spread : (ka lb sl q : Bool) → ((ka && sl) || ((ka && lb) || q)) ≡ ((ka && (lb || sl)) || q)
spread true true true q = refl
spread true true false q = refl
spread true false sl q = refl
spread false lb sl q = refl

-- what cell (k, l) holds after a list of commands is noted in row a
module _ (a : ℕ) (ha : (1 ≤ a) × (a ≤ 24)) where
  note_shape : (b : ℕ) (rows : List (List ℕ)) → (1 ≤ b) × (b ≤ 24) → Shape rows → Shape (note rows a b)
  note_shape b rows f s = put_shape rows s (a - 1) (b - 1) (omega arith) (omega arith)

  pub notes_shape : (bs : List ℕ) (rows : List (List ℕ)) → Fit bs → Shape rows → Shape (notes rows a bs)
  unfolding notes
  notes_shape [] rows f s = s
  notes_shape (b ∷ bs) rows f s = notes_shape bs (note rows a b) f.1 (note_shape b rows f.0 s)

  pub notes-cell : (bs : List ℕ) (rows : List (List ℕ)) → Fit bs → Shape rows
      → (k l : ℕ) (q : Bool) → cell rows k l ≡ yes_no q
      → cell (notes rows a bs) k l ≡ yes_no ((eqb (k + 1) a && stands (l + 1) bs) || q)
  unfolding notes stands
  notes-cell [] rows f s k l q e = e ∙ simp and-false
  notes-cell (b ∷ bs) rows f s k l q e =
      notes-cell bs (note rows a b) f.1 (note_shape b rows f.0 s) k l ((eqb (k + 1) a && eqb (l + 1) b) || q)
      (put-cell rows s (a - 1) (b - 1) (omega arith) (omega arith) k l
      ∙ rw (e, over_yes, eqb_pred k a ha.0, eqb_pred l b f.0.0))
      ∙ ap yes_no (spread (eqb (k + 1) a) (eqb (l + 1) b) (stands (l + 1) bs) q)

pub marked_if_lem : (f : ℕ) (rows : List (List ℕ)) (a b : ℕ) → 0 < f → pair rows a b ≡ marked_if f rows a b
marked_if_lem zero rows a b h = absurd (omega arith)
marked_if_lem (suc f) rows a b h = refl
