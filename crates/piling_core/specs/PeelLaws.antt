-- The loop that takes pairs off a piling: l letters are taken off in front, and the beads left are the stacks of the
-- word y that is left.
use Rattle.std.specs.Prelude.{ℕ, ◌+◌, ◌<◌, ◌≡◌, refl, List, [], length, get_or, set, Option, None, Some}
use Rattle.std.proofs.Common.{arith, subst}
use Rattle.theory_words.specs.TraceLaws.{~_refl}
use Rattle.theory_conjugacy.specs.Core.{Cores, bare}
use Rattle.theory_conjugacy.specs.CoreLaws.{peels_length, peels_cores}
use Rattle.input_chains.specs.Conflicts.{Conflicts}
use Rattle.spec.specs.Letters.{alphabet}
use Rattle.array_counts.specs.First.{FirstWith, FirstFound}
use Rattle.array_row.specs.WritingLaws.{Writing, writing_start, writing_end, writing_fits, writing_again}
use Rattle.piling_read.specs.Reading.{lowest, Room, Left}
use Rattle.piling_core.specs.Peeling.{Pair, Movable, Moved, Peelable, Peeled}
use Rattle.piling_core.specs.EndLaws.{pair_peels, no_pair_tight, peels_movable, peels_left}

-- l letters are taken off x in front, and y is what is left of it
abbrev pub Peeling : (c : List ℕ) (rows : List (List ℕ)) (x before heights at lead : List ℕ) → ℕ → List ℕ → Type 0
Peeling c rows x before heights at = Writing (Left rows heights c at) (Cores (alphabet c)) 2 x before

module _ {c : List ℕ} {rows : List (List ℕ)} {x before heights at lead : List ℕ} {l : ℕ} {y : List ℕ}
    (g : Peeling c rows x before heights at lead l y) where
  peeling_end : FirstFound (Pair rows heights at) None → Peeled c rows x before heights at lead l y
  peeling_end f = record {
    left = g.left;
    cores = writing_end g (bare (no_pair_tight g.left f (omega arith)) (~_refl (alphabet c) y));
    count = g.count;
    kept = g.kept;
  }

  module _ {k : ℕ} (f : FirstWith (Pair rows heights at) k) (h : k < 24) where
    peeling_fits : l < length lead
    peeling_fits =
        let (m, (s, w)) = pair_peels g.left k h (f.found h) in
        writing_fits g (omega (arith, peels_length (alphabet c) w))

    module _ {table : List (List ℕ)} (t : Conflicts c table) where
      peeling_movable : Movable (get_or table k []) heights at
      peeling_movable = let (m, (s, w)) = pair_peels g.left k h (f.found h) in peels_movable g.left t h m w

      peeling_again : {down up : List ℕ} → Moved (get_or table k []) heights at down up
          → (s : List ℕ) × Peeling c rows x before down up (set lead l (lowest rows at k)) (l + 1) s
      peeling_again d =
          let (m, (s, w)) = pair_peels g.left k h (f.found h) in (
            s,
            writing_again g (lowest rows at k) (peels_left g.left t h m w d)
                (omega (arith, peels_length (alphabet c) w)) peeling_fits (λ v z q. peels_cores (alphabet c) w q),
          )

-- the loop's state, for every catalogue and word that the arrays stand for
pub record Taken (conflicts rows₀ : List (List ℕ)) (heights₀ at₀ before : List ℕ) (rows : List (List ℕ))
    (heights at lead : List ℕ) (l : ℕ) (next : Option ℕ) : Type 0 where
  pub first : FirstFound (Pair rows heights at) next
  pub same : rows ≡ rows₀
  pub peeling : (c x : List ℕ) → Peelable c conflicts rows₀ heights₀ at₀ x before
      → (y : List ℕ) × Peeling c rows x before heights at lead l y

pub taken_start : {conflicts rows : List (List ℕ)} {heights at lead : List ℕ} {next : Option ℕ}
    → FirstFound (Pair rows heights at) next → Taken conflicts rows heights at lead rows heights at lead 0 next
taken_start f = record {
  first = f;
  same = refl;
  peeling = λ c x p. (x, writing_start p.left p.fits);
}

module _ {conflicts rows₀ : List (List ℕ)} {heights₀ at₀ before : List ℕ} {rows : List (List ℕ)}
    {heights at lead : List ℕ} {l : ℕ} {next : Option ℕ}
    (w : Taken conflicts rows₀ heights₀ at₀ before rows heights at lead l next) where
  -- what the search has told
  told_pair : {o : Option ℕ} → next ≡ o → FirstFound (Pair rows heights at) o
  told_pair e = subst (FirstFound (Pair rows heights at)) e w.first

  pub taken_end : next ≡ None → (c x : List ℕ) → Peelable c conflicts rows₀ heights₀ at₀ x before
      → (z : List ℕ) × Peeled c rows x before heights at lead l z
  taken_end e c x p = let (y, g) = w.peeling c x p in (y, peeling_end g (told_pair e))

  pub taken_long : (c : List ℕ) × (x : List ℕ) × Peelable c conflicts rows₀ heights₀ at₀ x before
      → length lead ≡ length before
  taken_long (c, x, p) = (w.peeling c x p).1.long

  module _ {k : ℕ} (e : next ≡ Some k) where
    pair_low : k < 24
    pair_low = (told_pair e).0

    pair_here : FirstWith (Pair rows heights at) k
    pair_here = (told_pair e).1

    pub taken_again : {down up : List ℕ} {again : Option ℕ} → Moved (get_or conflicts k []) heights at down up
        → FirstFound (Pair rows down up) again
        → Taken conflicts rows₀ heights₀ at₀ before rows down up (set lead l (lowest rows at k)) (l + 1) again
    taken_again d f = record {
      first = f;
      same = w.same;
      peeling = λ c x p. peeling_again (w.peeling c x p).1 pair_here pair_low p.table d;
    }

    module _ (some : (c : List ℕ) × (x : List ℕ) × Peelable c conflicts rows₀ heights₀ at₀ x before) where
      pub taken_index : get_or at k 0 < 1024
      taken_index =
          let (c, x, p) = some in
          omega (arith, (pair_here.found pair_low).two, (w.peeling c x p).1.left.room.high k pair_low)

      pub taken_fits : l < length lead
      taken_fits = let (c, x, p) = some in peeling_fits (w.peeling c x p).1 pair_here pair_low

      pub taken_movable : Movable (get_or conflicts k []) heights at
      taken_movable = let (c, x, p) = some in peeling_movable (w.peeling c x p).1 pair_here pair_low p.table

      pub taken_room : {down up : List ℕ} → Moved (get_or conflicts k []) heights at down up → Room rows down up
      taken_room d =
          let (c, x, p) = some in
          (peeling_again (w.peeling c x p).1 pair_here pair_low p.table d).1.left.room
