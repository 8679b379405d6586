-- The invariants of the loops that walk the chains, and what the marks tell in the end.
use Rattle.std.specs.Prelude.{ℕ, ◌+◌, ◌-◌, ◌≤◌, ◌<◌, ◌≡◌, refl, Bool, true, false, not, ◌||◌, ◌&&◌, List, eqb, ltb}
use Rattle.std.proofs.Math.Decide.{ℕ_discrete, dec_lt}
use Rattle.std.proofs.Common.{add-one, arith, sym, ◌∙◌, ap, ne_eqb, lt-ltb, le-ltb}
use Rattle.std.proofs.Math.Bool.{or_self, and-true, and-false}
use Rattle.std.proofs.Math.Dec.{eqb-suc-suc}
use Rattle.spec.specs.Catalogue.{commands, records, head, ends, chain, stands}
use Rattle.spec.specs.AlphabetLaws.{within_over}
use Rattle.spec_laws.specs.CatalogueLaws.{no_chain}
use Rattle.input_chains.specs.Conflicts.{Conflicts}
use Rattle.spec.specs.Answers.{yes_no}
use Rattle.spec.specs.Conflict.{names, conflict_by, conflict}
use Rattle.input_chains.specs.Marking.{cell, Shape, pairs}
use Rattle.input_conflicts.specs.MarkedRows.{Blank, diagonal, Met}
use Rattle.input_conflicts.specs.Known.{met, Chained}
use Rattle.input_chains.specs.MarkingLaws.{Fit, over_yes, pairs_shape, pairs-cell}
use Rattle.input_conflicts.specs.MarkedRowsLaws.{ltb_more, diagonal_shape, diagonal-cell}
use Rattle.input_catalogue.specs.Sound.{Sound}

-- the test of line 5
abbrev pub endless : List ℕ → ℕ → Bool
endless c a = not (ends c (records c) (head c a))

merge_or : (ei li ej lj : Bool) → (ej || (ei || (li || lj))) ≡ ((ei || li) || (ej || lj))
merge_or true li true lj = refl
merge_or true li false lj = refl
merge_or false true true lj = refl
merge_or false true false lj = refl
merge_or false false ej lj = refl

merge : (ei li ej lj p q : Bool)
    → ((ej && q) || ((ei && p) || ((li && p) || (lj && q)))) ≡ (((ei || li) && p) || ((ej || lj) && q))
merge ei li ej lj true true = simp and-true (merge_or ei li ej lj)
merge ei li ej lj true false = simp (and-true, and-false) (merge_or ei li false false)
merge ei li ej lj false true = simp (and-true, and-false)
merge ei li ej lj false false = simp and-false

-- in the chain of a, or of x if x is a
at_chain : (c : List ℕ) (x a y : ℕ) → (eqb x a && stands y (chain c a)) ≡ (eqb x a && stands y (chain c x))
at_chain c x a y = go (ℕ_discrete x a)
  where
    go : Dec (x ≡ a) → (eqb x a && stands y (chain c a)) ≡ (eqb x a && stands y (chain c x))
    go (yes e) = ap (λ z. eqb x a && stands y (chain c z)) (sym e)
    go (no e) = rw (ne_eqb x a e)

pub chained_start : (c : List ℕ) {rows : List (List ℕ)} → Blank rows → Chained c 1 rows
chained_start c b =
    record {
      shape = b.shape;
      marks = λ i j hi hj.
          b.clear i j hi hj ∙ rw (le-ltb (i + 1) 1 (omega arith), le-ltb (j + 1) 1 (omega arith));
    }

-- the commands that were marked are those of the chain, in whatever order
pub chained_again : (c : List ℕ) → Sound c → (a : ℕ) → 1 ≤ a → a ≤ commands c → {rows rows' : List (List ℕ)}
    → (bs : List ℕ) → Fit bs → ((x : ℕ) → 1 ≤ x → x ≤ 24 → stands x bs ≡ stands x (chain c a))
    → Chained c a rows → rows' ≡ pairs rows a bs → Chained c (a + 1) rows'
chained_again c s a la ha {rows} bs fit same m e =
    rw e (record { shape = pairs_shape a room bs rows fit m.shape; marks = marks })
  where
    room : (1 ≤ a) × (a ≤ 24)
    room = (la, omega (arith, s.framed.few))

    marks : (i j : ℕ) → i < 24 → j < 24 → cell (pairs rows a bs) i j ≡ yes_no (met c (a + 1) i j)
    marks i j hi hj =
        rw (
          pairs-cell a room bs rows fit m.shape i j (met c a i j) (m.marks i j hi hj),
          same (i + 1) (omega arith) (omega arith),
          same (j + 1) (omega arith) (omega arith),
          at_chain c (j + 1) a (i + 1),
          at_chain c (i + 1) a (j + 1),
          add-one a,
          ltb_more (i + 1) a,
          ltb_more (j + 1) a,
        )
        (ap yes_no
        (merge (eqb (i + 1) a) (ltb (i + 1) a) (eqb (j + 1) a) (ltb (j + 1) a) (stands (j + 1) (chain c (i + 1)))
        (stands (i + 1) (chain c (j + 1)))))

chain_below : (c : List ℕ) (a x y : ℕ) → commands c < a → (ltb x a && stands y (chain c x)) ≡ stands y (chain c x)
unfolding stands
chain_below c a x y h = go (dec_lt x a)
  where
    go : Dec (x < a) → (ltb x a && stands y (chain c x)) ≡ stands y (chain c x)
    go (yes l) = rw (lt-ltb x a l)
    go (no l) = rw (le-ltb x a (omega arith), no_chain c x (within_over 1 (commands c) x (omega arith)))

pub chained_end : (c : List ℕ) {a : ℕ} {rows : List (List ℕ)} → commands c < a → Chained c a rows → Met c rows
chained_end c {a} h m =
    record {
      shape = m.shape;
      marks = λ i j hi hj.
          m.marks i j hi hj ∙ rw (chain_below c a (i + 1) (j + 1) h, chain_below c a (j + 1) (i + 1) h);
    }

yes_true : (t : Bool) → (yes_no t ≡ 0 → ⊥) → t ≡ true
yes_true true h = refl
yes_true false h = absurd (h refl)

no_false : (t : Bool) → yes_no t ≡ 0 → t ≡ false
no_false true e = absurd (omega arith)
no_false false e = refl

module _ (c : List ℕ) {rows : List (List ℕ)} (m : Met c rows) (a : ℕ) (l : 1 ≤ a) (h : a ≤ 24) where
  own_cell : cell rows (a - 1) (a - 1) ≡ yes_no (stands a (chain c a))
  own_cell =
      let e : a - 1 + 1 ≡ a = omega arith in
      m.marks (a - 1) (a - 1) (omega arith) (omega arith) ∙ rw (e, or_self)

  pub met_own : (cell rows (a - 1) (a - 1) ≡ 0 → ⊥) → stands a (chain c a) ≡ true
  met_own n = yes_true (stands a (chain c a)) (λ e. n (own_cell ∙ e))

  pub met_not : cell rows (a - 1) (a - 1) ≡ 0 → stands a (chain c a) ≡ false
  met_not e = no_false (stands a (chain c a)) (sym own_cell ∙ e)

eqb_up : (i j : ℕ) → eqb (i + 1) (j + 1) ≡ eqb i j
eqb_up i j = rw (add-one i, add-one j) (eqb-suc-suc i j)

pub met_conflicts : (c : List ℕ) {rows : List (List ℕ)} → Met c rows → Conflicts c (diagonal rows 24)
unfolding conflict_by names
met_conflicts c {rows} m =
    record { tall = shape.tall; wide = shape.wide; tells = tells }
  where
    shape : Shape (diagonal rows 24)
    shape = diagonal_shape rows m.shape 24 (omega arith)

    tells : (i j : ℕ) → i < 24 → j < 24 → cell (diagonal rows 24) i j ≡ yes_no (conflict c (i + 1) (j + 1))
    tells i j hi hj =
        diagonal-cell rows m.shape 24 (omega arith) i j
        ∙ rw (lt-ltb i 24 hi, m.marks i j hi hj, over_yes, eqb_up i j)
