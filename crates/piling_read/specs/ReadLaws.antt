-- The loop that reads a piling off: l letters are written, and the beads left are the stacks of the word that is left.
use Rattle.std.specs.Prelude.{ℕ, ◌+◌, ◌<◌, ◌≡◌, List, [], length, get_or, set, Option, None, Some}
use Rattle.std.proofs.Common.{subst, arith}
use Rattle.spec.specs.Conflict.{conflict}
use Rattle.input_chains.specs.MarkingLaws.{yes_low}
use Rattle.array_counts.specs.First.{NoneBelow, FirstWith, FirstFound}
use Rattle.array_counts.specs.Heights.{Both, Changed}
use Rattle.array_row.specs.Area.{ReadOff}
use Rattle.array_row.specs.ReadOffLaws.{Reading, reading_start, reading_end, reading_fits, reading_again}
use Rattle.piling_read.specs.Reading.{lowest, Room, Ready, Left, Readable}
use Rattle.array_starts.specs.Starts.{Starts}
use Rattle.array_starts.specs.StartsLaws.{start_passed}
use Rattle.piling_read.specs.LeftLaws.{left_first, left_shows, left_fits, left_next}

-- the loop's state, for every catalogue and word that the arrays stood for at first
pub record Written (conflicts rows : List (List ℕ)) (heights bottoms before at area : List ℕ) (l : ℕ) (next : Option ℕ)
    : Type 0 where
  pub first : FirstFound (Ready rows heights at) next
  pub reading : (c x : List ℕ) → Readable c conflicts rows heights bottoms x before
      → (y : List ℕ) × Reading (Left rows heights c at) c x before area l y

pub written_start : {conflicts rows : List (List ℕ)} {heights at area : List ℕ} {next : Option ℕ}
    → FirstFound (Ready rows heights at) next → Written conflicts rows heights at area at area 0 next
written_start f = record { first = f; reading = λ c x r. (x, reading_start r.left r.fits) }

module _ {conflicts rows : List (List ℕ)} {heights bottoms before at area : List ℕ} {l : ℕ}
    {next : Option ℕ} (w : Written conflicts rows heights bottoms before at area l next) where
  -- what the search has told
  told_first : {o : Option ℕ} → next ≡ o → FirstFound (Ready rows heights at) o
  told_first e = subst (FirstFound (Ready rows heights at)) e w.first

  pub written_end : next ≡ None → (c x : List ℕ) → Readable c conflicts rows heights bottoms x before
      → ReadOff c x before area l
  written_end e c x r =
      let (y, g) = w.reading c x r in
      reading_end g (left_first g.left) (told_first e) (omega arith)

  -- some catalogue and word that the arrays stood for at first
  abbrev Started : Type 0
  Started = (c : List ℕ) × (x : List ℕ) × Readable c conflicts rows heights bottoms x before

  pub written_long : Started → length area ≡ length before
  written_long (c, x, r) = (w.reading c x r).1.long

  module _ {k : ℕ} (e : next ≡ Some k) where
    pub first_low : k < 24
    first_low = (told_first e).0

    first_ready : FirstWith (Ready rows heights at) k
    first_ready = (told_first e).1

    -- the letter at the bottom of row k is written and taken off
    written_next : {after : List ℕ} → Changed ◌+◌ (get_or conflicts k []) at after → (c x : List ℕ)
        → Readable c conflicts rows heights bottoms x before
        → (y : List ℕ) × Reading (Left rows heights c after) c x before (set area l (lowest rows at k)) (l + 1) y
    written_next {after} a c x r =
        let (y, g) = w.reading c x r in
        reading_again g (left_first g.left) first_ready first_low (Left rows heights c after)
        (λ v m p. left_next g.left r.table first_low m p a)

    pub written_again : {after : List ℕ} {again : Option ℕ} → Changed ◌+◌ (get_or conflicts k []) at after
        → FirstFound (Ready rows heights after) again
        → Written conflicts rows heights bottoms before after (set area l (lowest rows at k)) (l + 1) again
    written_again a f = record { first = f; reading = written_next a }

    module _ (some : Started) where
      pub written_index : get_or at k 0 < 1024
      written_index =
          let (c, x, r) = some in
          omega (arith, (first_ready.found first_low).0, (w.reading c x r).1.left.room.high k first_low)

      pub written_fits : l < length area
      written_fits =
          let (c, x, r) = some in
          let (y, g) = w.reading c x r in
          reading_fits g (left_first g.left) first_ready first_low

      pub written_lift : Both (λ h n. h + n < 65536) at (get_or conflicts k [])
      written_lift =
          let (c, x, r) = some in
          let (y, g) = w.reading c x r in
          let (m, (v, p)) = left_shows g.left k first_low (first_ready.found first_low) in
          left_fits g.left r.table first_low m p

      -- the line of any command can be added to the bottoms
      pub written_line : (j : ℕ) → j < 24 → Both (λ h n. h + n < 65536) at (get_or conflicts j [])
      written_line j m =
          let (c, x, r) = some in
          let s = (w.reading c x r).1.left.room in
          record {
            many = s.many;
            wide = r.table.wide j m;
            holds = λ i l.
                omega (arith, s.low i l, s.high i l, r.table.tells j i m l, yes_low (conflict c (j + 1) (i + 1)));
          }

      pub written_room : {after : List ℕ} → Changed ◌+◌ (get_or conflicts k []) at after → Room rows heights after
      written_room a = let (c, x, r) = some in (written_next a c x r).1.left.room

      pub written_passed : {starts after : List ℕ} → Starts conflicts starts
          → Changed ◌+◌ (get_or conflicts k []) at after → NoneBelow (Ready rows heights after) (get_or starts k 0)
      written_passed {after = after} s a =
          let (c, x, r) = some in
          start_passed r.table s first_low first_ready λ i b z.
          let same : get_or after i 0 ≡ get_or at i 0 = omega (arith, a.each i (omega (arith, first_low))) in
          subst (λ n. (n < get_or heights i 0) × (get_or (get_or rows i []) n 0 ≡ 0 → ⊥)) same
