-- The walk along one chain: every command in it is one, and what is still to come, marked onto the rows as they are,
-- gives what the whole chain gives.
use Prim.Native.Nat.{ℕ, zero, suc, ◌+◌, ◌-◌, ◌≤◌, ◌<◌}
use native.Mathlib.Omega.{arith}
use Rattle.std.specs.Prelude.{◌≡◌, refl, ◌⊎◌, List, eqb}
use Rattle.std.proofs.Common.{◌∙◌, inl, inr, ne_eqb}
use Rattle.spec.specs.Catalogue.{commands, records, head, command, next, ends, follow, chain}
use Rattle.input_catalogue.specs.Sound.{Sound}
use Rattle.input_chains.specs.Marking.{Shape, pair, pairs, note, notes}
use Rattle.input_chains.specs.MarkingLaws.{Fit, put_shape, pair_shape}

module _ (c : List ℕ) (s : Sound c) where
  -- every command of a chain is one
  pub command_fit : (j : ℕ) → 1 ≤ j → j ≤ records c → (1 ≤ command c j) × (command c j ≤ 24)
  command_fit j l h = ((s.named j l h).0, omega (arith, s.named j l h, s.framed.few))

  pub follow_fit : (n i : ℕ) → i ≤ records c → Fit (follow c n i)
  unfolding follow
  follow_fit zero i h = tt
  follow_fit (suc n) zero h = tt
  follow_fit (suc n) (suc i) h =
      (command_fit (suc i) (omega arith) h, follow_fit n (next c (suc i)) (s.nexts (suc i) (omega arith) h))

-- a walk along the chain of command a, of which at most left records are still to come, the next at index at: what is
-- still to be marked, and still to be noted in row a
pub record Walking (c : List ℕ) (a : ℕ) (rows₀ rows own₀ own : List (List ℕ)) (left at : ℕ) : Type 0 where
  pub shape : Shape rows
  pub own_shape : Shape own
  pub within : at ≤ records c
  pub ending : ends c left at ≡ ends c (records c) (head c a)
  pub marks : pairs rows a (follow c left at) ≡ pairs rows₀ a (chain c a)
  pub notes : notes own a (follow c left at) ≡ notes own₀ a (chain c a)

module _ (c : List ℕ) (s : Sound c) (a : ℕ) (r : (1 ≤ a) × (a ≤ commands c)) where
  pub walk_start : {rows own : List (List ℕ)} → Shape rows → Shape own → {left at : ℕ} → left ≡ records c
      → at ≡ head c a → Walking c a rows rows own own left at
  walk_start sh so l e =
      rw (l, e)
      (record {
        shape = sh;
        own_shape = so;
        within = s.heads a r.0 r.1;
        ending = refl;
        marks = refl;
        notes = refl;
      })

  pub walk_again : {rows₀ rows own₀ own : List (List ℕ)} {left at n : ℕ} {rows' own' : List (List ℕ)}
      → Walking c a rows₀ rows own₀ own left at → left ≡ n + 1 → 0 < at → rows' ≡ pair rows a (command c at)
      → own' ≡ note own a (command c at) → Walking c a rows₀ rows' own₀ own' n (next c at)
  unfolding ends follow pairs notes
  walk_again {left = zero} w l ht e f = absurd (omega arith)
  walk_again {left = suc m} {at = zero} w l ht e f = absurd (omega arith)
  walk_again {rows = rows} {own = own} {left = suc m} {at = suc i} {n = n} w l ht e f =
      let d : n ≡ m = omega arith in
      let fit = command_fit c s (suc i) ht w.within in
      rw (d, e, f)
      (record {
        shape = pair_shape rows w.shape a (command c (suc i)) (r.0, omega (arith, s.framed.few)) fit;
        own_shape = put_shape own w.own_shape (a - 1) (command c (suc i) - 1) (omega (arith, s.framed.few)) (omega arith);
        within = s.nexts (suc i) ht w.within;
        ending = w.ending;
        marks = w.marks;
        notes = w.notes;
      })

  -- the walk has come to the end of the chain, or has used all its records
  pub walk_over : {rows₀ rows own₀ own : List (List ℕ)} {left at : ℕ} → Walking c a rows₀ rows own₀ own left at
      → (at ≡ 0) ⊎ (left ≡ 0)
      → (eqb at 0 ≡ ends c (records c) (head c a)) × (rows ≡ pairs rows₀ a (chain c a)) × (own ≡ notes own₀ a (chain c a))
  unfolding ends follow pairs notes
  walk_over {left = zero} {at = zero} w e = (w.ending, w.marks, w.notes)
  walk_over {left = suc n} {at = zero} w e = (w.ending, w.marks, w.notes)
  walk_over {left = zero} {at = suc i} w e = (ne_eqb (suc i) 0 (omega arith) ∙ w.ending, w.marks, w.notes)
  walk_over {left = suc n} {at = suc i} w (inl e) = absurd (omega arith)
  walk_over {left = suc n} {at = suc i} w (inr e) = absurd (omega arith)
