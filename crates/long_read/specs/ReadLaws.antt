-- The loop that reads the stacks of a long word off: l letters are written, and the arrays hold the stacks of the word
-- that is left.
use Rattle.std.specs.Prelude.{ℕ, ◌+◌, ◌-◌, ◌<◌, ◌≡◌, refl, List, [], None, Some, length, get_or, set}
use Rattle.std.proofs.Common.{arith, ◌∙◌, ap, le_refl, get_or-set_other}
use Rattle.input_chains.specs.Conflicts.{Conflicts}
use Rattle.array_counts.specs.First.{NoneBelow, FirstWith, FirstFound}
use Rattle.array_row.specs.Area.{ReadOff}
use Rattle.array_row.specs.ReadOffLaws.{Shows, Reading, reading_start, reading_end, reading_fits, reading_again}
use Rattle.array_starts.specs.Starts.{Starts}
use Rattle.array_starts.specs.StartsLaws.{start_passed}
use Rattle.long_stacks.specs.Linked.{Stacks, LetterOnTop}
use Rattle.long_stacks.specs.Moves.{Cuttable, Cut}
use Rattle.long_stacks.specs.declared.LinkedStacks.{LinkedStacks}
use Rattle.long_stacks.specs.StacksLaws.{Lined, stacks_topped, stacks_first, first_stacks, stacks_cuttable, stacks_cut}
use Rattle.long_read.specs.Reading.{Readable}

-- the letter on top of the stack of command k + 1
abbrev pub top_at : List ℕ → List ℕ → ℕ → ℕ
top_at word tops k = get_or word (get_or tops k 0 - 1) 0

-- a letter is on top of a stack exactly if it can come first
stacks_shown : {n : ℕ} {c word : List ℕ} {s : LinkedStacks n} {y : List ℕ} → Stacks c word s 0 y
    → Shows c (LetterOnTop s) (top_at word s.tops) y
stacks_shown h = record {
  letters = h.letters;
  shown = λ k l e. stacks_first h l e;
  ready = λ k l d o m. (first_stacks h l o m).0;
}

-- the loop's state, for every catalogue and word that the arrays stood for at first, of which there is one
pub record Underway {n : ℕ} (conflicts : List (List ℕ)) (word : List ℕ) (s₀ : LinkedStacks n) (before : List ℕ)
    (s : LinkedStacks n) (area : List ℕ) (l start : ℕ) : Type 0 where
  pub some : (c : List ℕ) × (x : List ℕ) × Readable c conflicts word s₀ x before
  pub passed : NoneBelow (LetterOnTop s) start
  pub under : s.under ≡ s₀.under
  pub link : s.link ≡ s₀.link
  pub reading : (c x : List ℕ) → Readable c conflicts word s₀ x before
      → (y : List ℕ) × Reading (Stacks c word s 0) c x before area l y

pub underway_start : {n : ℕ} {conflicts : List (List ℕ)} {word : List ℕ} {s : LinkedStacks n} {area : List ℕ}
    → (c : List ℕ) × (x : List ℕ) × Readable c conflicts word s x area → Underway conflicts word s area s area 0 0
underway_start some = record {
  some = some;
  passed = record { within = omega arith; none = λ i h p. omega (arith, h) };
  under = refl;
  link = refl;
  reading = λ c x r. (x, reading_start r.stacks r.fits);
}

module _ {n : ℕ} {conflicts : List (List ℕ)} {word : List ℕ} {s₀ : LinkedStacks n} {before : List ℕ}
    {s : LinkedStacks n} {area : List ℕ} {l start : ℕ} (w : Underway conflicts word s₀ before s area l start) where
  pub underway_end : FirstFound (LetterOnTop s) None → (c x : List ℕ) → Readable c conflicts word s₀ x before
      → ReadOff c x before area l
  underway_end f c x r =
      let (y, g) = w.reading c x r in
      reading_end g (stacks_shown g.left) f (le_refl 24)

  pub underway_long : length area ≡ length before
  underway_long = let (c, x, r) = w.some in (w.reading c x r).1.long

  module _ {k : ℕ} (f : FirstFound (LetterOnTop s) (Some k)) where
    pub underway_low : k < 24
    underway_low = f.0

    first_at : FirstWith (LetterOnTop s) k
    first_at = f.1

    lined : {c : List ℕ} → Conflicts c conflicts → Lined c (get_or conflicts k []) k
    lined t = let h = underway_low in record { within = h; wide = t.wide k h; tells = λ j i. t.tells k j h i }

    -- no stack below the start of row k has a letter on top when the letter of row k is off
    pub underway_passed : {starts : List ℕ} {s' : LinkedStacks n} → Starts conflicts starts
        → Cut s (get_or conflicts k []) k s' → NoneBelow (LetterOnTop s') (get_or starts k 0)
    underway_passed {s' = s'} t u =
        let h : k < 24 = underway_low in
        let (c, x, r) = w.some in
        start_passed r.table t h first_at λ i b z q.
        let e : get_or s'.marks i 0 ≡ get_or s.marks i 0
        = ap (λ m. get_or m i 0) u.written.mark ∙ get_or-set_other s.marks k i _ 0 (omega arith) in
        omega (arith, e, q, u.lowered.each i (omega arith))

    pub underway_again : {starts : List ℕ} {s' : LinkedStacks n} → Starts conflicts starts
        → Cut s (get_or conflicts k []) k s'
        → Underway conflicts word s₀ before s' (set area l (top_at word s.tops k)) (l + 1) (get_or starts k 0)
    underway_again {s' = s'} t u = record {
      some = w.some;
      passed = underway_passed t u;
      under = u.unders ∙ w.under;
      link = u.links ∙ w.link;
      reading = λ c x r.
          let (y, g) = w.reading c x r in
          reading_again g (stacks_shown g.left) first_at underway_low (Stacks c word s' 0)
          (λ v m p. stacks_cut g.left (lined r.table) p m u);
    }

    pub underway_inside : get_or s.tops k 0 - 1 < length word
    underway_inside =
        let (c, x, r) = w.some in
        (stacks_topped (w.reading c x r).1.left underway_low (first_at.found underway_low)).1.inside

    pub underway_fits : l < length area
    underway_fits =
        let (c, x, r) = w.some in
        let (y, g) = w.reading c x r in
        reading_fits g (stacks_shown g.left) first_at underway_low

    pub underway_cuttable : Cuttable s (get_or conflicts k []) k
    underway_cuttable =
        let (c, x, r) = w.some in
        stacks_cuttable (w.reading c x r).1.left (lined r.table) (first_at.found underway_low)
