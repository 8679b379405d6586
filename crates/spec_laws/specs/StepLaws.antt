-- Two plans of bytes that pass are equal, as demand 2 says, exactly if their words are equal in the group of the
-- catalogue's alphabet.
use Rattle.std.specs.Prelude.{ℕ, ◌≡◌, Bool, ◌↔◌}
use Rattle.std.proofs.Math.Path.{refl}
use Rattle.std.proofs.Common.{◌∙◌, ap, subst₂, eqb-true}
use Rattle.std.proofs.Math.Bool.{true, false}
use mathlib.Core.List.{List, [], ◌∷◌}
use Rattle.std.proofs.Math.Dec.{eqb}
use Rattle.theory_words.specs.Group as Group
use Rattle.theory_words.specs.Group.{empty, keep, trade, drop, then, back}
use Rattle.theory_words.specs.GroupLaws.{≈_refl}
use Rattle.theory_words.specs.Filter.{filter, keep_if, drop_if}
use Rattle.theory_words.specs.FilterLaws.{filter_passes, filter_whole}
use Rattle.spec.specs.Catalogue.{commands}
use Rattle.spec.specs.Conflict.{conflict}
use Rattle.spec.specs.AlphabetLaws.{conflict_sym}
use Rattle.spec.specs.Plan.{is_command, passes, Passing}
use Rattle.spec.specs.Byte.{command_of, undone}
use Rattle.spec_laws.specs.CommandLaws.{is_command-undone, command_nonzero, command_passes}
use Rattle.spec.specs.Letters.{letters, alphabet}
use Rattle.spec_laws.specs.LettersLaws.{Commands, letters_filler, letters_letter, letters_commands}
use Rattle.spec_laws.specs.LettersLaws.{commands_passing}
use Rattle.spec.specs.Step.{Step, swap, pair_in, pair_out, filler_in, filler_out, later, Equal, stay, step}

module _ (c : List ℕ) where
  infix 20 ◌≈◌
  abbrev ◌≈◌ : List ℕ → List ℕ → Type 0
  ◌≈◌ = Group.◌≈◌ (alphabet c)

  abbrev n : ℕ
  n = commands c

  -- Equal is an equivalence on the plans that pass

  pub equal_left : {v w : List ℕ} → Equal c v w → Passing n v
  equal_left (stay p) = p
  equal_left (step p s e) = p

  pub equal_right : {v w : List ℕ} → Equal c v w → Passing n w
  equal_right (stay p) = p
  equal_right (step p s e) = equal_right e

  pub equal_trans : {u v w : List ℕ} → Equal c u v → Equal c v w → Equal c u w
  equal_trans (stay p) f = f
  equal_trans (step p s e) f = step p s (equal_trans e f)

  step_sym : {v w : List ℕ} → Step c v w → Step c w v
  step_sym (swap {a = a} {b = b} j k d) = swap k j (conflict_sym c (command_of b) (command_of a) ∙ d)
  step_sym (pair_in j) = pair_out j
  step_sym (pair_out j) = pair_in j
  step_sym filler_in = filler_out
  step_sym filler_out = filler_in
  step_sym (later s) = later (step_sym s)

  pub equal_sym : {v w : List ℕ} → Equal c v w → Equal c w v
  equal_sym (stay p) = stay p
  equal_sym (step p s e) = equal_trans (equal_sym e) (step (equal_left e) (step_sym s) (stay p))

  -- a byte that passes, put in front
  pub equal_later : {b : ℕ} {v w : List ℕ} → passes n b ≡ true → Equal c v w → Equal c (b ∷ v) (b ∷ w)
  equal_later {b} k (stay {v = v} p) = let h : Passing n (b ∷ v) = (k, p) in stay h
  equal_later {b} k (step {v = v} p s e) =
      let h : Passing n (b ∷ v) = (k, p) in
      step h (later s) (equal_later k e)

  -- from plans to words

  letters_pair : (a b : ℕ) (y : List ℕ) → is_command n a ≡ true → is_command n b ≡ true
      → letters (a ∷ b ∷ y) ≡ a ∷ b ∷ letters y
  letters_pair a b y j k =
      letters_letter a (b ∷ y) (command_nonzero n a j)
      ∙ ap (λ (x : List ℕ). a ∷ x) (letters_letter b y (command_nonzero n b k))

  letters_undo : (a : ℕ) (y : List ℕ) → is_command n a ≡ true → letters (a ∷ undone a ∷ y) ≡ a ∷ undone a ∷ letters y
  letters_undo a y j = letters_pair a (undone a) y j (is_command-undone n a ∙ j)

  words_later : (b : ℕ) (t : Bool) (x y : List ℕ) → eqb b 0 ≡ t → letters x ≈ letters y
      → letters (b ∷ x) ≈ letters (b ∷ y)
  words_later b true x y e f = rw (letters_filler b x e, letters_filler b y e) f
  words_later b false x y e f = rw (letters_letter b x e, letters_letter b y e) (keep f)

  step_words : {v w : List ℕ} → Step c v w → letters v ≈ letters w
  step_words (swap {a = a} {b = b} {y = y} j k d) = rw (letters_pair a b y j k, letters_pair b a y k j) (trade d)
  step_words (pair_in {a = a} {y = y} j) = rw (letters_undo a y j) (back drop)
  step_words (pair_out {a = a} {y = y} j) = rw (letters_undo a y j) drop
  step_words (filler_in {y = y}) = rw (letters_filler 0 y refl) (≈_refl (alphabet c) (letters y))
  step_words (filler_out {y = y}) = rw (letters_filler 0 y refl) (≈_refl (alphabet c) (letters y))
  step_words (later {b = b} {x = x} {y = y} s) = words_later b (eqb b 0) x y refl (step_words s)

  pub equal_words : {v w : List ℕ} → Equal c v w → letters v ≈ letters w
  equal_words (stay {v = v} p) = ≈_refl (alphabet c) (letters v)
  equal_words (step p s e) = then (step_words s) (equal_words e)

  -- from words to plans: letters that are no commands are left out

  abbrev pub kept : List ℕ → List ℕ
  kept = filter (is_command n)

  pub kept_commands : (w : List ℕ) → Commands n (kept w)
  kept_commands w = filter_passes (is_command n) w

  pub kept_passing : (w : List ℕ) → Passing n (kept w)
  kept_passing w = commands_passing n (kept w) (kept_commands w)

  pub kept_same : (w : List ℕ) → Commands n w → kept w ≡ w
  kept_same w h = filter_whole (is_command n) w h

  kept_keep : (a : ℕ) (t : Bool) {v w : List ℕ} → is_command n a ≡ t → Equal c v w
      → Equal c (keep_if t a v) (keep_if t a w)
  unfolding keep_if
  kept_keep a true k e = equal_later (command_passes n a k) e
  kept_keep a false k e = e

  kept_trade : (a b : ℕ) (s t : Bool) (y : List ℕ) → is_command n a ≡ s → is_command n b ≡ t
      → conflict c (command_of a) (command_of b) ≡ false → Passing n y
      → Equal c (keep_if s a (keep_if t b y)) (keep_if t b (keep_if s a y))
  unfolding keep_if
  kept_trade a b true true y j k d h =
      let p : Passing n (a ∷ b ∷ y) = (command_passes n a j, (command_passes n b k, h)) in
      let q : Passing n (b ∷ a ∷ y) = (p.1.0, (p.0, h)) in
      step p (swap j k d) (stay q)
  kept_trade a b true false y j k d h = let p : Passing n (a ∷ y) = (command_passes n a j, h) in stay p
  kept_trade a b false true y j k d h = let p : Passing n (b ∷ y) = (command_passes n b k, h) in stay p
  kept_trade a b false false y j k d h = stay h

  kept_drop : (a : ℕ) (t : Bool) (y : List ℕ) → is_command n a ≡ t → Passing n y
      → Equal c (keep_if t a (keep_if t (undone a) y)) y
  unfolding keep_if
  kept_drop a true y j h =
      let k = is_command-undone n a ∙ j in
      let p : Passing n (a ∷ undone a ∷ y) = (command_passes n a j, (command_passes n (undone a) k, h)) in
      step p (pair_out j) (stay h)
  kept_drop a false y j h = stay h

  pub kept_equal : {v w : List ℕ} → v ≈ w → Equal c (kept v) (kept w)
  unfolding filter
  kept_equal empty = let p : Passing n [] = tt in stay p
  kept_equal (keep {a = a} e) = kept_keep a (is_command n a) refl (kept_equal e)
  kept_equal (trade {a = a} {b = b} {w = w} d) =
      kept_trade a b (is_command n a) (is_command n b) (kept w) refl refl d (kept_passing w)
  kept_equal (drop {a = a} {w = w}) =
      rw (is_command-undone n a) (kept_drop a (is_command n a) (kept w) refl (kept_passing w))
  kept_equal (then e f) = equal_trans (kept_equal e) (kept_equal f)
  kept_equal (back e) = equal_sym (kept_equal e)

  pub words_equal : {v w : List ℕ} → Commands n v → Commands n w → v ≈ w → Equal c v w
  words_equal {v} {w} h k e = subst₂ (Equal c) (kept_same v h) (kept_same w k) (kept_equal e)

  -- a plan is equal to its word: the fillers are taken out
  pub equal_letters : (v : List ℕ) → Passing n v → Equal c v (letters v)
  unfolding letters filter keep_if
  equal_letters [] h = stay h
  equal_letters (b ∷ v) h = go (eqb b 0) refl (equal_letters v h.1)
    where
      go : (t : Bool) → eqb b 0 ≡ t → Equal c v (letters v) → Equal c (b ∷ v) (drop_if t b (letters v))
      go true e f = let s : Step c (b ∷ v) v = rw (eqb-true b 0 e) filler_out in step h s f
      go false e f = equal_later h.0 f

  -- demand 2 on bytes is equality of words in the group
  pub equal_exact : (v w : List ℕ) → Passing n v → Passing n w → (Equal c v w) ↔ (letters v ≈ letters w)
  equal_exact v w h k = (equal_words, from)
    where
      from : letters v ≈ letters w → Equal c v w
      from e =
          let f = words_equal (letters_commands n v h) (letters_commands n w k) e in
          equal_trans (equal_letters v h) (equal_trans f (equal_sym (equal_letters w k)))
