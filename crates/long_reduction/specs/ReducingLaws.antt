-- The loop that reduces a word from its right end: one letter more is put on the stacks, or cut off with its undo.
use Rattle.std.specs.Prelude.{ℕ, ◌+◌, ◌-◌, ◌<◌, ◌≤◌, ◌≡◌, List, [], ◌∷◌, length, get_or}
use Rattle.std.proofs.Common.{arith, add-one, ◌∙◌, ap, drop-cons, eq-eqb, ne_eqb}
use Rattle.std.proofs.Math.Path.{sym}
use Rattle.std.proofs.Math.ListN.{drop}
use Rattle.std.proofs.lemmas.List.{get_or-replicate}
use Rattle.std.proofs.Math.Seq.{drop-length}
use Rattle.theory_words.specs.Filter.{filter}
use Rattle.theory_words.specs.Trace.{First}
use Rattle.theory_words.specs.Reduce.{act, reduce}
use Rattle.theory_words.specs.ReduceLaws.{cut, put, act_is}
use Rattle.theory_words.specs.Stack.{proj}
use Rattle.spec.specs.Catalogue.{commands}
use Rattle.spec.specs.Byte.{command_of, undone}
use Rattle.spec.specs.AlphabetLaws.{command_undone}
use Rattle.spec_laws.specs.PlanLaws.{passing_at}
use Rattle.spec_laws.specs.CommandLaws.{passes_command, command_range}
use Rattle.spec.specs.Letters.{letters, alphabet}
use Rattle.spec_laws.specs.LettersLaws.{letters_filler, letters_letter}
use Rattle.input_plan.specs.Lettered.{Lettered}
use Rattle.long_stacks.specs.Linked.{LetterOnTop, bottom}
use Rattle.long_stacks.specs.Moves.{Puttable, Put, Cuttable, Cut}
use Rattle.long_stacks.specs.Empty.{Empty}
use Rattle.long_stacks.specs.declared.LinkedStacks.{LinkedStacks}
use Rattle.long_stacks.specs.StacksLaws.{Lined, stacks_topped, stacks_first, first_stacks, stacks_cuttable, stacks_cut}
use Rattle.long_stacks.specs.StacksLaws.{stacks_puttable, stacks_put, stacks_earlier}
use Rattle.long_reduction.specs.Reducing.{Given, Reducing}

-- no letter is read, and every stack is empty
pub reducing_start : {n : ℕ} {c : List ℕ} {conflicts : List (List ℕ)} {word : List ℕ} {s : LinkedStacks n}
    → Given c conflicts word → length word ≤ n → Empty n s → Reducing c conflicts word s (length word)
unfolding letters filter reduce proj
reducing_start {word = word} g l e = record {
  given = g;
  stacks = rw (drop-length word) (record {
    short = g.short;
    unders = omega (arith, e.unders);
    links = omega (arith, e.links);
    topped = ap length e.tops;
    marked = ap length e.marks;
    measured = ap length e.heights;
    room = omega arith;
    letters = tt;
    linked = λ k h. rw (e.tops, e.marks, get_or-replicate {A = ℕ} 24 k 0 0 h) bottom;
    high = λ k h. rw e.heights (get_or-replicate {A = ℕ} 24 k 1 0 h);
  });
}

-- what the letters behind place p reduce to
abbrev pub later : List ℕ → List ℕ → ℕ → List ℕ
later c word p = reduce (alphabet c) (letters (drop (p + 1) word))

module _ {n : ℕ} {c : List ℕ} {conflicts : List (List ℕ)} {word : List ℕ} {s : LinkedStacks n} (p : ℕ)
    (r : Reducing c conflicts word s (p + 1)) where
  pub reducing_within : p < length word
  reducing_within = omega (arith, r.stacks.room)

  drop_split : drop p word ≡ get_or word p 0 ∷ drop (p + 1) word
  drop_split = rw (add-one, drop-cons word p 0 reducing_within)

  pub reducing_filler : get_or word p 0 ≡ 0 → Reducing c conflicts word s p
  reducing_filler e =
      let t : letters (drop p word) ≡ letters (drop (p + 1) word)
      = ap letters drop_split ∙ letters_filler (get_or word p 0) (drop (p + 1) word) (eq-eqb (get_or word p 0) 0 e) in
      record { given = r.given; stacks = rw t (stacks_earlier r.stacks) }

  -- a letter a of command k + 1 at place p
  module _ {a k : ℕ} (is : get_or word p 0 ≡ a) (index : command_of a - 1 ≡ k) (o : ¬ (a ≡ 0)) where
    pub reducing_lettered : Lettered a
    reducing_lettered =
        let g = r.given in
        let t = rw is at (passing_at (commands c) word g.passing p reducing_within) in
        let u = passes_command (commands c) a t (ne_eqb a 0 o) in
        let (l, m) = command_range (commands c) a (omega (arith, g.few)) u in
        (l, omega (arith, m, g.few))

    acts_reduce : act (alphabet c) a (later c word p) ≡ reduce (alphabet c) (letters (drop p word))
    unfolding reduce
    acts_reduce =
        let t : drop p word ≡ a ∷ drop (p + 1) word = rw is at drop_split in
        sym (ap (reduce (alphabet c)) (ap letters t ∙ letters_letter a (drop (p + 1) word) (ne_eqb a 0 o)))

    command_own : command_of a ≡ k + 1
    command_own = omega (arith, reducing_lettered.0)

    pub reducing_lined : Lined c (get_or conflicts k []) k
    reducing_lined =
        let h : k < 24 = omega (arith, command_own, reducing_lettered.1) in
        record {
          within = h;
          wide = r.given.table.wide k h;
          tells = λ j l. r.given.table.tells k j h l;
        }

    undone_own : command_of (undone a) ≡ k + 1
    undone_own = command_undone a ∙ command_own

    pub reducing_puttable : Puttable s (get_or conflicts k []) p k
    reducing_puttable = stacks_puttable r.stacks reducing_lined

    -- the letter's undo is not on top
    pub reducing_put : {s' : LinkedStacks n}
        → (LetterOnTop s k → get_or word (get_or s.tops k 0 - 1) 0 ≡ undone a → ⊥)
        → Put s (get_or conflicts k []) p k s' → Reducing c conflicts word s' p
    reducing_put d u =
        let m : ¬ First (alphabet c) (undone a) (later c word p) = λ f.
        let (z, e) = first_stacks r.stacks reducing_lined.within f undone_own in
        d z e in
        record {
          given = r.given;
          stacks = rw (sym acts_reduce ∙ act_is (alphabet c) (put m), ← is)
              (stacks_put r.stacks reducing_lined (ap command_of is ∙ command_own) u);
        }

    pub reducing_inside : LetterOnTop s k → get_or s.tops k 0 - 1 < length word
    reducing_inside z = (stacks_topped r.stacks reducing_lined.within z).1.inside

    pub reducing_cuttable : LetterOnTop s k → Cuttable s (get_or conflicts k []) k
    reducing_cuttable z = stacks_cuttable r.stacks reducing_lined z

    -- the letter's undo is on top
    pub reducing_cut : {s' : LinkedStacks n} → LetterOnTop s k
        → get_or word (get_or s.tops k 0 - 1) 0 ≡ undone a → Cut s (get_or conflicts k []) k s'
        → Reducing c conflicts word s' p
    reducing_cut z e u =
        let f : First (alphabet c) (undone a) (later c word p)
        = rw e at (stacks_first r.stacks reducing_lined.within z).1 in
        record {
          given = r.given;
          stacks = rw (sym acts_reduce ∙ act_is (alphabet c) (cut f.1))
              (stacks_earlier (stacks_cut r.stacks reducing_lined f.1 undone_own u));
        }
