-- The ends of what is left of a piling: a pair at the ends of a row is a letter that can come first and its undo that
-- can come last in what the letter leaves, and where no row has a pair no letter is left to be taken off with its undo.
use Rattle.std.specs.Prelude.{ℕ, suc, ◌+◌, ◌-◌, ◌<◌, ◌≤◌, ◌≡◌, List, [], ◌∷◌, ◌++◌, reverse, length, get_or}
use Rattle.std.proofs.Common.{sym, ◌∙◌, ap, subst, append-nil, arith}
use Rattle.std.proofs.lemmas.List.{reverse-reverse, reverse-append}
use Rattle.std.proofs.Math.Seq.{slice, slice-cons}
use Rattle.theory_words.specs.All.{All, all_pick, all_along, all_left}
use Rattle.theory_words.specs.Alphabet.{Alphabet, Word}
use Rattle.theory_words.specs.Trace as Trace
use Rattle.theory_words.specs.Trace.{Pick}
use Rattle.theory_words.specs.TraceLaws.{~-reverse, pick_front}
use Rattle.theory_words.specs.Group.{undo}
use Rattle.theory_words.specs.GroupLaws.{pick_undo}
use Rattle.theory_words.specs.Stack.{mark, proj}
use Rattle.theory_words.specs.StackLaws.{mark_own, mark-length, proj-append, proj_along, proj_pick}
use Rattle.theory_words.specs.StackLaws.{proj_front_rest, stack_top, stack_read}
use Rattle.theory_conjugacy.specs.Turn.{Tight}
use Rattle.theory_conjugacy.specs.CoreLaws.{Peels, off}
use Rattle.input_chains.specs.Conflicts.{Conflicts}
use Rattle.spec.specs.Byte.{command_of, undone}
use Rattle.spec.specs.AlphabetLaws.{command_undone}
use Rattle.spec.specs.Letters.{alphabet}
use Rattle.input_plan.specs.Lettered.{Lettered}
use Rattle.input_plan.specs.LetteredLaws.{lettered_filler}
use Rattle.array_counts.specs.First.{FirstWith}
use Rattle.piling_read.specs.Reading.{lowest, beads_left, Left}
use Rattle.piling_read.specs.LeftLaws.{line_count, left_wide, left_shows}
use Rattle.piling_core.specs.Peeling.{Pair, Movable, Moved}
use Rattle.piling_core.specs.SliceLaws.{slice_snoc, slice_inner, slice_ends}

-- the stack of command k in a word, and what a letter puts on it
abbrev stack : List ℕ → ℕ → List ℕ → List ℕ
stack c k w = proj (alphabet c) 0 k w

abbrev bead : List ℕ → ℕ → ℕ → List ℕ
bead c k b = mark (alphabet c) 0 k b

-- a letter that can come first in the reversed word can come last
pick_reverse : (Γ : Alphabet) {d : Γ.Letter} (r : Word Γ) {q : Word Γ} → Pick Γ d (reverse r) q
    → Trace.◌~◌ Γ r (reverse q ++ d ∷ [])
pick_reverse Γ {d} r {q} p =
    let t : Trace.◌~◌ Γ (reverse (reverse r)) (reverse (d ∷ q)) = ~-reverse Γ (pick_front Γ p) in
    subst (λ (x : Word Γ). Trace.◌~◌ Γ x (reverse q ++ d ∷ [])) (reverse-reverse r)
    (subst (Trace.◌~◌ Γ (reverse (reverse r))) (reverse-append (d ∷ []) q) t)

-- a stack of a word with a letter at its front and the undo at its end
peels_stack : (c : List ℕ) (k : ℕ) {b : ℕ} {y s : List ℕ} → Peels (alphabet c) b y s
    → stack c k y ≡ bead c k b ++ (stack c k s ++ bead c k (undone b))
unfolding proj
peels_stack c k {b} {y} {s} (off p q) =
    proj_pick (alphabet c) 0 k p
    ∙ ap (λ (x : List ℕ). bead c k b ++ x) (proj_along (alphabet c) 0 k q
    ∙ proj-append (alphabet c) 0 k s (undone b ∷ [])
    ∙ ap (λ (x : List ℕ). stack c k s ++ x) (append-nil (bead c k (undone b))))

-- on the stack of its own command
peels_own : (c : List ℕ) {b : ℕ} {y s : List ℕ} → Peels (alphabet c) b y s
    → stack c (command_of b) y ≡ b ∷ (stack c (command_of b) s ++ undone b ∷ [])
peels_own c {b} {y} {s} w =
    let k : ℕ = command_of b in
    let u : bead c k (undone b) ≡ undone b ∷ []
    = subst (λ (j : ℕ). bead c j (undone b) ≡ undone b ∷ []) (command_undone b)
    (mark_own (alphabet c) 0 (undone b)) in
    peels_stack c k w ∙ ap (λ (x : List ℕ). x ++ (stack c k s ++ bead c k (undone b))) (mark_own (alphabet c) 0 b)
    ∙ ap (λ (x : List ℕ). b ∷ (stack c k s ++ x)) u

module _ {rows : List (List ℕ)} {heights c at y : List ℕ} (e : Left rows heights c at y) where
  -- a pair is a letter that can come first, and its undo then can come last
  pub pair_peels : (k : ℕ) → k < 24 → Pair rows heights at k
      → (command_of (lowest rows at k) ≡ k + 1) × ((s : List ℕ) × Peels (alphabet c) (lowest rows at k) y s)
  pair_peels k l o =
      let (m, (r, p)) = left_shows e k l (omega arith, o.letter) in
      let (z, (q, g)) = stack_top (alphabet c) 0 (k + 1) (reverse r) middle (upper p m) (undo_letter m) in
      (m, (reverse q, off p (pick_reverse (alphabet c) r g)))
    where
      bottom : ℕ
      bottom = lowest rows at k

      middle : List ℕ
      middle = slice (suc (get_or at k 0)) (get_or heights k 0 - 1) (get_or rows k [])

      undo_letter : command_of bottom ≡ k + 1 → undone bottom ≡ 0 → ⊥
      undo_letter m z = omega (arith, command_undone bottom, ap command_of z)

      upper : {r : List ℕ} → Pick (alphabet c) bottom y r → command_of bottom ≡ k + 1
          → reverse (stack c (k + 1) (reverse r)) ≡ middle ++ undone bottom ∷ []
      upper {r} p m =
          let above : List ℕ = slice (suc (get_or at k 0)) (get_or heights k 0) (get_or rows k []) in
          let a : stack c (k + 1) y ≡ bottom ∷ above
          = sym (e.beads k l)
          ∙ slice-cons (get_or at k 0) (get_or heights k 0) (get_or rows k []) 0 (omega arith) (left_wide e k l) in
          stack_read (alphabet c) 0 (k + 1) (reverse r)
          ∙ ap (stack c (k + 1)) (reverse-reverse r)
          ∙ proj_front_rest (alphabet c) 0 (k + 1) a m p
          ∙ slice_snoc (suc (get_or at k 0)) (get_or heights k 0) (get_or rows k []) (omega arith) (left_wide e k l)
          ∙ ap (λ (d : ℕ). middle ++ d ∷ []) o.undo

  -- where a letter can come first and its undo then last, its row has a pair
  peels_pair : {b : ℕ} {s : List ℕ} → Peels (alphabet c) b y s → Lettered b → (k : ℕ) → k < 24 → command_of b ≡ k + 1
      → Pair rows heights at k
  peels_pair {b} {s} w t k l m =
      let g : beads_left rows heights at k ≡ b ∷ (stack c (command_of b) s ++ undone b ∷ [])
      = e.beads k l ∙ ap (λ (n : ℕ). stack c n y) (sym m) ∙ peels_own c w in
      let (h, i, j) = slice_ends (get_or at k 0) (get_or heights k 0) (get_or rows k []) (e.room.low k l) (left_wide e k l)
      b (undone b) (stack c (command_of b) s) g in
      record { two = h; letter = λ z. lettered_filler t (sym i ∙ z); undo = j ∙ ap undone (sym i) }

  pub no_pair_tight : {k : ℕ} → FirstWith (Pair rows heights at) k → 24 ≤ k → Tight (alphabet c) y
  no_pair_tight f h b r p (q, o) =
      let t : Lettered b = (all_pick (alphabet c) Lettered p e.letters).0 in
      let w : Peels (alphabet c) b y (undo (alphabet c) q []) = off p (pick_undo (alphabet c) r o) in
      f.before (command_of b - 1) (omega arith) (peels_pair w t (command_of b - 1) (omega arith) (omega arith))

  -- taking a letter and its undo off
  module _ {table : List (List ℕ)} {k b : ℕ} {s : List ℕ} (t : Conflicts c table) (l : k < 24)
      (m : command_of b ≡ k + 1) (w : Peels (alphabet c) b y s) where
    -- how many beads each of them takes off row i
    line_letter : (i : ℕ) → i < 24 → length (bead c (i + 1) b) ≡ get_or (get_or table k []) i 0
    line_letter i h = sym (line_count k b t l m i h)

    line_undone : (i : ℕ) → i < 24 → length (bead c (i + 1) (undone b)) ≡ get_or (get_or table k []) i 0
    line_undone i h = mark-length (alphabet c) 0 (i + 1) (undone b) b (command_undone b) ∙ line_letter i h

    -- what is left of row i between them
    peels_inner : (i : ℕ) → i < 24 → let n = get_or (get_or table k []) i 0 in
        (get_or heights i 0 ≡ get_or at i 0 + (n + length (stack c (i + 1) s)) + n)
        × (slice (get_or at i 0 + n) (get_or heights i 0 - n) (get_or rows i []) ≡ stack c (i + 1) s)
    peels_inner i h =
        slice_inner (get_or at i 0) (get_or heights i 0) (get_or rows i []) (e.room.low i h) (left_wide e i h)
        (get_or (get_or table k []) i 0) (bead c (i + 1) b) (stack c (i + 1) s) (bead c (i + 1) (undone b))
        (e.beads i h ∙ peels_stack c (i + 1) w) (line_letter i h) (line_undone i h)

    pub peels_movable : Movable (get_or table k []) heights at
    peels_movable = (
      record {
        many = e.room.shape.many;
        wide = t.wide k l;
        holds = λ i h. omega (arith, (peels_inner i h).0);
      },
      record {
        many = e.room.many;
        wide = t.wide k l;
        holds = λ i h. omega (arith, (peels_inner i h).0, e.room.high i h);
      },
    )

    pub peels_left : {down up : List ℕ} → Moved (get_or table k []) heights at down up → Left rows down c up s
    peels_left {down} {up} (d, u) = record {
      room = record {
        shape = record {
          tall = e.room.shape.tall;
          wide = e.room.shape.wide;
          many = d.kept ∙ e.room.shape.many;
        };
        many = u.kept ∙ e.room.many;
        low = λ i h. omega (arith, u.each i h, d.each i h, (peels_inner i h).0);
        high = λ i h. omega (arith, d.each i h, e.room.high i h);
      };
      letters = rest w;
      beads = λ i h. rw (u.each i h, d.each i h) (peels_inner i h).1;
    }
      where
        rest : Peels (alphabet c) b y s → All Lettered s
        rest (off p q) = all_left Lettered s (undone b ∷ [])
            (all_along (alphabet c) Lettered q (all_pick (alphabet c) Lettered p e.letters).1)
