-- Laws of the stacks of a word in one row: a letter put on them, and a letter that can come first cut off.
use Rattle.std.specs.Prelude.{ℕ, ◌+◌, ◌-◌, ◌<◌, ◌≤◌, ◌≡◌}
use Rattle.std.proofs.Common.{arith, sym, ◌∙◌, subst}
use Rattle.std.proofs.Math.Path.{ap}
use mathlib.Core.List.{List, ◌∷◌, head-eq_of_cons-eq}
use Rattle.std.proofs.Math.ListN.{length, get_or, length-set}
use Rattle.theory_words.specs.All.{all_pick}
use Rattle.theory_words.specs.Trace.{Pick, First}
use Rattle.theory_words.specs.TraceLaws.{pick_length}
use Rattle.theory_words.specs.Stack.{proj, mark}
use Rattle.theory_words.specs.StackLaws.{proj-length, proj_pick, proj_first, proj_front}
use Rattle.spec.specs.Conflict.{conflict}
use Rattle.spec.specs.Answers.{yes_no}
use Rattle.input_chains.specs.MarkingLaws.{yes_low}
use Rattle.spec.specs.Byte.{command_of}
use Rattle.spec.specs.Letters.{alphabet}
use Rattle.input_plan.specs.Lettered.{Lettered}
use Rattle.input_plan.specs.LetteredLaws.{lettered_filler}
use Rattle.long_stacks.specs.Linked.{Stacks, LetterOnTop, height}
use Rattle.long_stacks.specs.LinkedLaws.{Topped, linked_letter, linked_topped, linked_earlier}
use Rattle.long_stacks.specs.Moves.{Puttable, Put, Cuttable, Cut}
use Rattle.long_stacks.specs.declared.LinkedStacks.{LinkedStacks}
use Rattle.array_counts.specs.MeetsLaws.{Meets, meets_line}
use Rattle.long_stacks.specs.MeetsLaws.{meets_height, meets_put, meets_cut}

-- line tells which commands conflict with command k + 1
pub record Lined (c line : List ℕ) (k : ℕ) : Type 0 where
  pub within : k < 24
  pub wide : length line ≡ 24
  pub tells : (j : ℕ) → j < 24 → get_or line j 0 ≡ yes_no (conflict c (k + 1) (j + 1))

module _ {c line : List ℕ} {k : ℕ} (n : Lined c line k) where
  letter_meets : (b j : ℕ) → command_of b ≡ k + 1 → j < 24
      → Meets k b j (get_or line j 0) (mark (alphabet c) 0 (j + 1) b)
  letter_meets b j e l = meets_line c k b j (get_or line j 0) e (n.tells j l)

  line_one : (j : ℕ) → j < 24 → get_or line j 0 ≤ 1
  line_one j l = rw (n.tells j l) (yes_low (conflict c (k + 1) (j + 1)))

module _ {n : ℕ} {c word : List ℕ} {s : LinkedStacks n} {i k : ℕ} {x : List ℕ} (h : Stacks c word s i x) where
  pub stacks_topped : k < 24 → LetterOnTop s k
      → (1 ≤ get_or s.tops k 0) × Topped word s.under s.link i (get_or s.tops k 0 - 1) (proj (alphabet c) 0 (k + 1) x)
  stacks_topped l e = linked_topped (e ∙ h.high k l) (h.linked k l)

  -- a letter on top can come first
  pub stacks_first : k < 24 → LetterOnTop s k → let b = get_or word (get_or s.tops k 0 - 1) 0 in
      (command_of b ≡ k + 1) × First (alphabet c) b x
  stacks_first l e =
      let t = (stacks_topped l e).1 in
      proj_front (alphabet c) 0 (k + 1) x t.beads t.filled

  -- a letter that can come first is on top
  pub first_stacks : {b : ℕ} → k < 24 → First (alphabet c) b x → command_of b ≡ k + 1
      → LetterOnTop s k × (get_or word (get_or s.tops k 0 - 1) 0 ≡ b)
  first_stacks {b} l (r, p) m =
      let o : ¬ (b ≡ 0) = lettered_filler (all_pick (alphabet c) Lettered p h.letters).0 in
      let e : proj (alphabet c) 0 (k + 1) x ≡ b ∷ proj (alphabet c) 0 (k + 1) r
      = subst (λ (j : ℕ). proj (alphabet c) 0 j x ≡ b ∷ proj (alphabet c) 0 j r) m (proj_first (alphabet c) 0 p) in
      let z : get_or s.marks k 0 ≡ get_or s.heights k 0 = linked_letter e o (h.linked k l) ∙ sym (h.high k l) in
      (z, sym (head-eq_of_cons-eq (sym e ∙ (stacks_topped l z).1.beads)))

  module _ {line : List ℕ} (d : Lined c line k) where
    pub stacks_cuttable : LetterOnTop s k → Cuttable s line k
    stacks_cuttable e =
        let (some, t) = stacks_topped d.within e in
        record {
          within = d.within;
          some = some;
          low = omega (arith, t.inside, h.short);
          unders = omega (arith, t.inside, h.unders);
          links = omega (arith, t.inside, h.links);
          differences = record {
            many = h.measured;
            wide = d.wide;
            holds = λ j l. omega (arith, line_one d j l, h.high j l);
          };
        }

    pub stacks_cut : {b : ℕ} {r : List ℕ} {s' : LinkedStacks n} → Pick (alphabet c) b x r → command_of b ≡ k + 1
        → Cut s line k s' → Stacks c word s' i r
    stacks_cut {b} {r} p m u =
        let (a, letters) = all_pick (alphabet c) Lettered p h.letters in
        record {
          short = h.short;
          unders = omega (arith, h.unders, ap length u.unders);
          links = omega (arith, h.links, ap length u.links);
          topped = ap length u.written.top ∙ length-set s.tops k _ ∙ h.topped;
          marked = ap length u.written.mark ∙ length-set s.marks k _ ∙ h.marked;
          measured = u.lowered.kept ∙ h.measured;
          room = omega (arith, h.room, pick_length (alphabet c) p);
          letters = letters;
          linked = λ j l. meets_cut u (omega (arith, h.topped, d.within)) (omega (arith, h.marked, d.within))
              (letter_meets d b j m l) (lettered_filler a)
              (rw (proj_pick (alphabet c) 0 (j + 1) p) at (h.linked j l));
          high = λ j l.
              let g = meets_height (proj (alphabet c) 0 (j + 1) r) (letter_meets d b j m l) in
              omega (arith, u.lowered.each j l, h.high j l, ap length (proj_pick (alphabet c) 0 (j + 1) p));
        }

-- a letter put on the stacks, at the place before theirs
module _ {n : ℕ} {c word line : List ℕ} {s : LinkedStacks n} {p k : ℕ} {x : List ℕ} (h : Stacks c word s (p + 1) x)
    (d : Lined c line k) where
  pub stacks_puttable : Puttable s line p k
  stacks_puttable = record {
    within = d.within;
    low = omega (arith, h.room, h.short);
    unders = omega (arith, h.room, h.unders);
    links = omega (arith, h.room, h.links);
    sums = record {
      many = h.measured;
      wide = d.wide;
      holds = λ j l.
          omega (arith, h.high j l, proj-length (alphabet c) 0 (j + 1) x, h.room, h.short, line_one d j l);
    };
  }

  pub stacks_put : {s' : LinkedStacks n} → command_of (get_or word p 0) ≡ k + 1 → Put s line p k s'
      → Stacks c word s' p (get_or word p 0 ∷ x)
  unfolding proj
  stacks_put {s'} m u =
      let a : Lettered (get_or word p 0) = (omega (arith, m), omega (arith, m, d.within)) in
      let high : (j : ℕ) → j < 24 → get_or s'.heights j 0 ≡ height (proj (alphabet c) 0 (j + 1) (get_or word p 0 ∷ x))
      = λ j l.
      let g = meets_height (proj (alphabet c) 0 (j + 1) x) (letter_meets d (get_or word p 0) j m l) in
      omega (arith, u.lifted.each j l, h.high j l) in
      record {
        short = h.short;
        unders = omega (arith, h.unders, ap length u.unders, length-set s.under p (get_or s.marks k 0));
        links = omega (arith, h.links, ap length u.links, length-set s.link p (get_or s.tops k 0));
        topped = ap length u.written.top ∙ length-set s.tops k (p + 1) ∙ h.topped;
        marked = ap length u.written.mark ∙ length-set s.marks k _ ∙ h.marked;
        measured = u.lifted.kept ∙ h.measured;
        room = omega (arith, h.room);
        letters = (a, h.letters);
        linked = λ j l. meets_put u (omega (arith, h.room)) h.unders h.links
            (omega (arith, h.topped, d.within)) (omega (arith, h.marked, d.within))
            (letter_meets d (get_or word p 0) j m l) (lettered_filler a) (high j l) (h.linked j l);
        high = high;
      }

-- the stacks of places from p + 1 on are stacks of places from p on
pub stacks_earlier : {n : ℕ} {c word : List ℕ} {s : LinkedStacks n} {p : ℕ} {x : List ℕ}
    → Stacks c word s (p + 1) x → Stacks c word s p x
stacks_earlier {p = p} h = record {
  short = h.short;
  unders = h.unders;
  links = h.links;
  topped = h.topped;
  marked = h.marked;
  measured = h.measured;
  room = omega (arith, h.room);
  letters = h.letters;
  linked = λ j l. linked_earlier p (omega arith) (h.linked j l);
  high = h.high;
}
