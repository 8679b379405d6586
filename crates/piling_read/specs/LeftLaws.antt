-- What is left of a piling: a row that is ready shows a letter that can come first, and a letter takes one bead off
-- each row whose command conflicts with it.
use Rattle.std.specs.Prelude.{ℕ, suc, ◌+◌, ◌-◌, ◌<◌, ◌≤◌, ◌≡◌, length, get_or, take, drop}
use Rattle.std.proofs.Common.{sym, ◌∙◌, ap, subst, arith, length-append, drop-drop, drop_at}
use mathlib.Core.List.{List, [], ◌∷◌, head-eq_of_cons-eq}
use Rattle.std.proofs.Math.Seq.{slice, slice-cons, length-slice}
use Rattle.theory_words.specs.All.{all_pick}
use Rattle.theory_words.specs.Trace.{Pick, First}
use Rattle.theory_words.specs.Stack.{mark, proj}
use Rattle.theory_words.specs.StackLaws.{proj_pick, proj_first, proj_front}
use Rattle.input_chains.specs.Conflicts.{Conflicts}
use Rattle.spec.specs.Byte.{command_of}
use Rattle.spec.specs.Letters.{alphabet}
use Rattle.input_plan.specs.Lettered.{Lettered}
use Rattle.input_plan.specs.LetteredLaws.{lettered_filler}
use Rattle.array_counts.specs.Heights.{Both, Changed}
use Rattle.array_row.specs.ReadOffLaws.{Shows}
use Rattle.array_counts.specs.MeetsLaws.{meets_length, meets_line}
use Rattle.piling_read.specs.Reading.{lowest, beads_left, Ready, Left}

-- how many beads a letter of command k + 1 puts on row i
pub line_count : {c : List ℕ} {table : List (List ℕ)} (k b : ℕ) → Conflicts c table → k < 24 → command_of b ≡ k + 1
    → (i : ℕ) → i < 24 → get_or (get_or table k []) i 0 ≡ length (mark (alphabet c) 0 (i + 1) b)
line_count {c} k b t l m i h = sym (meets_length (meets_line c k b i _ m (t.tells k i l h)))

module _ {rows : List (List ℕ)} {heights c at y : List ℕ} (e : Left rows heights c at y) where
  pub left_wide : (i : ℕ) → i < 24 → get_or heights i 0 ≤ length (get_or rows i [])
  left_wide i l = omega (arith, e.room.high i l, e.room.shape.wide i l)

  left_count : (i : ℕ) → i < 24 → length (beads_left rows heights at i) ≡ get_or heights i 0 - get_or at i 0
  left_count i l = length-slice (get_or at i 0) (get_or heights i 0) (get_or rows i []) (left_wide i l)

  left_cons : (i : ℕ) → i < 24 → get_or at i 0 < get_or heights i 0
      → beads_left rows heights at i ≡ lowest rows at i ∷ slice (suc (get_or at i 0)) (get_or heights i 0) (get_or rows i [])
  left_cons i l h = slice-cons (get_or at i 0) (get_or heights i 0) (get_or rows i []) 0 h (left_wide i l)

  -- a row that is ready shows a letter that can come first
  pub left_shows : (k : ℕ) → k < 24 → Ready rows heights at k
      → (command_of (lowest rows at k) ≡ k + 1) × First (alphabet c) (lowest rows at k) y
  left_shows k l (h, n) = proj_front (alphabet c) 0 (k + 1) y (sym (e.beads k l) ∙ left_cons k l h) n

  -- a letter that can come first makes its row ready
  left_ready : {d : ℕ} (r : ℕ) {s : List ℕ} → Pick (alphabet c) d y s → command_of d ≡ r + 1 → Ready rows heights at r
  left_ready {d} r {s} p m =
      let t : Lettered d = (all_pick (alphabet c) Lettered p e.letters).0 in
      let l : r < 24 = omega (arith, t.1) in
      let q = subst (λ k. proj (alphabet c) 0 k y ≡ d ∷ proj (alphabet c) 0 k s) m (proj_first (alphabet c) 0 p) in
      let f : beads_left rows heights at r ≡ d ∷ proj (alphabet c) 0 (r + 1) s = e.beads r l ∙ q in
      let h : get_or at r 0 < get_or heights r 0 = omega (arith, ap length f, left_count r l) in
      let g : lowest rows at r ≡ d = head-eq_of_cons-eq (sym (left_cons r l h) ∙ f) in
      (h, λ z. lettered_filler t (sym g ∙ z))

  -- a row is ready exactly if it shows a letter that can come first
  pub left_first : Shows c (Ready rows heights at) (lowest rows at) y
  left_first = record { letters = e.letters; shown = left_shows; ready = λ k l d o m. left_ready k o.1 m }

  -- taking a letter off
  module _ {table : List (List ℕ)} {k b : ℕ} {r : List ℕ} (t : Conflicts c table) (l : k < 24)
      (m : command_of b ≡ k + 1) (p : Pick (alphabet c) b y r) where
    line_low : (i : ℕ) → i < 24 → get_or at i 0 + get_or (get_or table k []) i 0 ≤ get_or heights i 0
    line_low i h = omega (
      arith,
      line_count k b t l m i h,
      left_count i h,
      ap length (e.beads i h ∙ proj_pick (alphabet c) 0 (i + 1) p),
      length-append (mark (alphabet c) 0 (i + 1) b) (proj (alphabet c) 0 (i + 1) r),
      e.room.low i h,
    )

    pub left_fits : Both (λ h n. h + n < 65536) at (get_or table k [])
    left_fits = record {
      many = e.room.many;
      wide = t.wide k l;
      holds = λ i h. omega (arith, line_low i h, e.room.high i h);
    }

    pub left_next : {after : List ℕ} → Changed ◌+◌ (get_or table k []) at after → Left rows heights c after r
    left_next {after} a = record {
      room = record {
        shape = e.room.shape;
        many = a.kept ∙ e.room.many;
        low = λ i h. omega (arith, a.each i h, line_low i h);
        high = e.room.high;
      };
      letters = (all_pick (alphabet c) Lettered p e.letters).1;
      beads = λ i h. ap (λ n. slice n (get_or heights i 0) (get_or rows i [])) (a.each i h) ∙ next_beads i h;
    }
      where
        next_beads : (i : ℕ) → i < 24
            → slice (get_or at i 0 + get_or (get_or table k []) i 0) (get_or heights i 0) (get_or rows i [])
            ≡ proj (alphabet c) 0 (i + 1) r
        next_beads i h =
            sym (drop-drop (get_or (get_or table k []) i 0) (get_or at i 0) (take (get_or heights i 0) (get_or rows i [])))
            ∙ ap (drop (get_or (get_or table k []) i 0)) (e.beads i h ∙ proj_pick (alphabet c) 0 (i + 1) p)
            ∙ drop_at (mark (alphabet c) 0 (i + 1) b) (proj (alphabet c) 0 (i + 1) r) (get_or (get_or table k []) i 0)
            (sym (line_count k b t l m i h))
