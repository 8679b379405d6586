-- Equality in the right-angled Artin group of an alphabet, on words: swaps of independent neighbours, and a letter
-- beside its undo put in or taken out. Undoing a word, and conjugating by one.
use Rattle.std.specs.Prelude.{◌≡◌, false}
use mathlib.Core.List.{List, [], ◌∷◌, ◌++◌, map, reverse_aux}
use Rattle.theory_words.specs.Alphabet.{Alphabet, Word, dep}
use Rattle.theory_words.specs.Trace.{First}

-- u backwards with each element undone by f, then v
abbrev pub undo_by : {A : Type 0} → (A → A) → List A → List A → List A
undo_by f u v = reverse_aux (map f u) v

module _ (Γ : Alphabet) where
  open Γ use {Letter, inv}

  infix 20 ◌≈◌
  pub data ◌≈◌ : Word Γ → Word Γ → Type 0 where
    empty : [] ≈ []
    keep : {a : Letter} {v w : Word Γ} → v ≈ w → (a ∷ v) ≈ (a ∷ w)
    trade : {a b : Letter} {w : Word Γ} → dep Γ a b ≡ false → (a ∷ b ∷ w) ≈ (b ∷ a ∷ w)
    drop : {a : Letter} {w : Word Γ} → (a ∷ inv a ∷ w) ≈ w
    then : {u v w : Word Γ} → u ≈ v → v ≈ w → u ≈ w
    back : {v w : Word Γ} → v ≈ w → w ≈ v

  -- no letter meets its undo behind independent letters
  abbrev pub Reduced : Word Γ → Type 0
  Reduced [] = Unit {0}
  Reduced (a ∷ w) = (¬ First Γ (inv a) w) × Reduced w

  -- u undone, backwards, then v
  abbrev pub undo : Word Γ → Word Γ → Word Γ
  undo = undo_by inv

  -- u undone, then x, then u
  unfoldable pub conj : Word Γ → Word Γ → Word Γ
  conj u x = undo u (x ++ u)
