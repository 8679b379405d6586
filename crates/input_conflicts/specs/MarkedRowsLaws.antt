-- Laws of blank rows and of the diagonal.
use Prim.Native.Nat.{ℕ, zero, suc, ◌+◌, ◌≤◌, ◌<◌}
use Rattle.std.proofs.Math.Decide.{ℕ_discrete, dec_lt}
use Rattle.std.proofs.Math.Numerals.{add-one}
use Rattle.std.proofs.Common.{arith, ◌∙◌}
use Rattle.std.specs.Prelude.{◌≡◌, refl, ◌||◌, ◌&&◌, List, [], replicate}
use Rattle.std.proofs.lemmas.List.{get_or-replicate}
use Rattle.std.proofs.Math.Dec.{eqb, ltb}
use borrow.Author.Tests.{eq-eqb, ne_eqb, lt-ltb, le-ltb}
use Rattle.spec.specs.AlphabetLaws.{eqb_sym}
use Rattle.input_chains.specs.Marking.{cell, Shape, put}
use Rattle.input_chains.specs.MarkingLaws.{over, put_shape, put-cell}
use Rattle.input_conflicts.specs.MarkedRows.{Blank, diagonal}

abbrev zeros : List ℕ
zeros = replicate 24 0

pub blank_rows_lem : Blank (replicate 24 zeros)
blank_rows_lem =
    record {
      shape = record { tall = refl; wide = λ i h. rw (get_or-replicate 24 i zeros [] h) };
      clear = λ i j hi hj. rw (get_or-replicate 24 i zeros [] hi) (get_or-replicate 24 j 0 0 hj);
    }

pub ltb_more : (x a : ℕ) → ltb x (suc a) ≡ (eqb x a || ltb x a)
ltb_more x a = go (ℕ_discrete x a) (dec_lt x a)
  where
    go : Dec (x ≡ a) → Dec (x < a) → ltb x (suc a) ≡ (eqb x a || ltb x a)
    go (yes e) d = rw (eq-eqb x a e) (lt-ltb x (suc a) (omega arith))
    go (no e) (yes h) = rw (ne_eqb x a e, lt-ltb x a h) (lt-ltb x (suc a) (omega arith))
    go (no e) (no h) = rw (ne_eqb x a e, le-ltb x a (omega arith)) (le-ltb x (suc a) (omega arith))

-- a mark on the diagonal

pub diagonal_more : (rows : List (List ℕ)) (i : ℕ) {rows' : List (List ℕ)} → rows' ≡ diagonal rows i
    → put rows' i i ≡ diagonal rows (i + 1)
unfolding diagonal
diagonal_more rows i e = rw (e, add-one i)

module _ (rows : List (List ℕ)) (s : Shape rows) where
  pub diagonal_shape : (k : ℕ) → k ≤ 24 → Shape (diagonal rows k)
  unfolding diagonal
  diagonal_shape zero h = s
  diagonal_shape (suc k) h = put_shape (diagonal rows k) (diagonal_shape k (omega arith)) k k h h

  pub diagonal-cell : (k : ℕ) → k ≤ 24 → (i j : ℕ)
      → cell (diagonal rows k) i j ≡ over (ltb i k && eqb i j) (cell rows i j)
  unfolding diagonal
  diagonal-cell zero h i j = rw (le-ltb i 0 (omega arith))
  diagonal-cell (suc k) h i j =
      put-cell (diagonal rows k) (diagonal_shape k (omega arith)) k k h h i j
      ∙ rw (diagonal-cell k (omega arith) i j, ltb_more i k) (go (ℕ_discrete i k))
    where
      go : Dec (i ≡ k) → over (eqb i k && eqb j k) (over (ltb i k && eqb i j) (cell rows i j))
          ≡ over ((eqb i k || ltb i k) && eqb i j) (cell rows i j)
      go (yes e) =
          rw (eq-eqb i k e, le-ltb i k (omega arith), e, eqb_sym j k)
      go (no e) = rw (ne_eqb i k e)
