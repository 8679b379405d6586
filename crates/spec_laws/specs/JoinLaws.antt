-- Lead-ins of plans and conjugating words are the same thing, also where the words have any letters; and a lead-in is
-- checked by v·u and u·w.
use Rattle.std.specs.Prelude.{ℕ, ◌≡◌, List, [], ◌∷◌, ◌++◌, ◌↔◌, ◌⊎◌, eqb}
use Rattle.std.proofs.Common.{sym, ◌∙◌, subst₂, inl, inr, arith, eqb-true}
use Rattle.std.proofs.Math.Path.{ap}
use Rattle.std.proofs.Math.Bool.{true}
use Rattle.theory_words.specs.Group as Group
use Rattle.theory_words.specs.Group.{conj, undo_by}
use Rattle.theory_words.specs.GroupLaws.{undo_onto, conj_of, conj_swap}
use Rattle.theory_words.specs.FilterLaws.{filter-append, filter_undo}
use Rattle.spec.specs.Catalogue.{commands}
use Rattle.spec.specs.Plan.{is_command, passes, Passing}
use Rattle.spec.specs.Byte.{undone, undo_of}
use Rattle.spec.specs.Letters.{letters, alphabet}
use Rattle.spec_laws.specs.CommandLaws.{is_command-undone, passes_cases, command_passes}
use Rattle.spec_laws.specs.PlanLaws.{passes_low, passing_append, passing_right}
use Rattle.spec_laws.specs.LettersLaws.{letters_commands, letters-undone, letters-append, letters_same}
use Rattle.spec.specs.Step.{Equal}
use Rattle.spec_laws.specs.StepLaws.{equal_exact, equal_words, equal_left, kept, kept_commands, kept_same}
use Rattle.spec_laws.specs.StepLaws.{kept_equal, kept_passing}
use Rattle.spec.specs.Join.{Joins}

-- undoing a plan keeps it passing, with any number of commands
module _ (n : ℕ) where
  passes-undone : (b : ℕ) → passes n b ≡ true → passes n (undone b) ≡ true
  unfolding passes undone
  passes-undone b e = go (passes_cases n b e)
    where
      go : (eqb b 0 ≡ true) ⊎ (is_command n b ≡ true) → passes n (undone b) ≡ true
      go (inl z) = rw (eqb-true b 0 z) (passes_low n 0 (omega arith))
      go (inr k) = command_passes n (undone b) (is_command-undone n b ∙ k)

  pub undone_passing : (u v : List ℕ) → Passing n u → Passing n v → Passing n (undo_of u ++ v)
  undone_passing u v h k = rw (undo_onto undone u v) at (onto u v h k)
    where
      onto : (u v : List ℕ) → Passing n u → Passing n v → Passing n (undo_by undone u v)
      onto [] v h k = k
      onto (b ∷ u) v h k = onto u (undone b ∷ v) h.1 (passes-undone b h.0, k)

module _ (c : List ℕ) where
  infix 20 ◌≈◌
  abbrev ◌≈◌ : List ℕ → List ℕ → Type 0
  ◌≈◌ = Group.◌≈◌ (alphabet c)

  joined_letters : (u v : List ℕ) → letters (undo_of u ++ (v ++ u)) ≡ conj (alphabet c) (letters u) (letters v)
  unfolding conj
  joined_letters u v =
      ap letters (sym (undo_onto undone u (v ++ u))) ∙ letters-undone u (v ++ u)
      ∙ ap (undo_by undone (letters u)) (letters-append v u)

  pub joins_words : (v w u : List ℕ) → Passing (commands c) v → Passing (commands c) w → Passing (commands c) u
      → (Joins c v w u) ↔ (conj (alphabet c) (letters u) (letters v) ≈ letters w)
  joins_words v w u h k l = rw (joined_letters u v) at (
      equal_exact c (undo_of u ++ (v ++ u)) w
      (undone_passing (commands c) u (v ++ u) l (passing_append (commands c) v u h l)) k
      )

  kept-conj : (u v : List ℕ) → kept c (conj (alphabet c) u v) ≡ conj (alphabet c) (kept c u) (kept c v)
  unfolding conj
  kept-conj u v =
      let p = is_command (commands c) in
      filter_undo p undone (is_command-undone (commands c)) u (v ++ u)
      ∙ ap (undo_by undone (kept c u)) (filter-append p v u)

  -- a conjugating word of any letters gives a lead-in: its letters that are no commands are left out
  pub words_join : (v w u : List ℕ) → Passing (commands c) v → Passing (commands c) w
      → conj (alphabet c) u (letters v) ≈ letters w → Joins c v w (kept c u)
  words_join v w u h k e =
      let p : kept c (letters v) ≡ letters v = kept_same c (letters v) (letters_commands (commands c) v h) in
      let q : kept c (letters w) ≡ letters w = kept_same c (letters w) (letters_commands (commands c) w k) in
      let f : kept c (conj (alphabet c) u (letters v)) ≈ kept c (letters w) =
      subst₂ ◌≈◌ (kept-letters (conj (alphabet c) u (letters v))) (kept-letters (letters w))
      (equal_words c (kept_equal c e)) in
      let g : conj (alphabet c) (kept c u) (letters v) ≈ letters w =
      subst₂ ◌≈◌ (kept-conj u (letters v) ∙ ap (conj (alphabet c) (kept c u)) p) q f in
      (joins_words v w (kept c u) h k (kept_passing c u)).1 (rw (kept-letters u) g)
    where
      kept-letters : (x : List ℕ) → letters (kept c x) ≡ kept c x
      kept-letters x = letters_same (commands c) (kept c x) (kept_commands c x)

  -- v·u and u·w are equal
  pub joins_check : (v w u : List ℕ) → Passing (commands c) v → Passing (commands c) w → Passing (commands c) u
      → (Joins c v w u) ↔ (Equal c (v ++ u) (u ++ w))
  joins_check v w u h k l = (
    λ j. both.1 (rw (letters-append v u, letters-append u w)
        (conj_swap (alphabet c) (letters u) (letters v) ((joins_words v w u h k l).0 j))),
    λ e. (joins_words v w u h k l).1 (conj_of (alphabet c) (letters u) (letters v)
        (rw (letters-append v u, letters-append u w) at (both.0 e))),
  )
    where
      both : (Equal c (v ++ u) (u ++ w)) ↔ (letters (v ++ u) ≈ letters (u ++ w))
      both =
          equal_exact c (v ++ u) (u ++ w) (passing_append (commands c) v u h l)
          (passing_append (commands c) u w l k)

  -- a lead-in holds only bytes that pass
  pub joins_passing : (v w u : List ℕ) → Joins c v w u → Passing (commands c) u
  joins_passing v w u j =
      let n = commands c in
      passing_right n v u (passing_right n (undo_of u) (v ++ u) (equal_left c j))
