-- Cyclings: the first letter of a word is moved to its end. And cyclically reduced words.
use Rattle.std.specs.Prelude.{[], ◌∷◌, ◌++◌}
use Rattle.theory_words.specs.Alphabet.{Alphabet, Word}
use Rattle.theory_words.specs.Trace as Trace
use Rattle.theory_words.specs.Trace.{Pick, First}
use Rattle.theory_words.specs.Group.{Reduced, undo}

module _ (Γ : Alphabet) where
  open Γ use {Letter, inv}

  infix 20 ◌~◌
  abbrev ◌~◌ : Word Γ → Word Γ → Type 0
  ◌~◌ = Trace.◌~◌ Γ

  -- swaps and cyclings lead from x to y
  pub data Turns : Word Γ → Word Γ → Type 0 where
    same : {x y : Word Γ} → x ~ y → Turns x y
    turn : {a : Letter} {z : Word Γ} → Turns (a ∷ z) (z ++ a ∷ [])
    also : {x y z : Word Γ} → Turns x y → Turns y z → Turns x z

  -- no letter that can come first meets its own undo able to come last: two occurrences, so the letter is taken out
  -- before its undo is looked for. (The undo of c can come last in r if c can come first in r undone.)
  abbrev pub Tight : Word Γ → Type 0
  Tight x = (c : Letter) (r : Word Γ) → Pick Γ c x r → ¬ First Γ c (undo Γ r [])

  -- cyclically reduced: every word that swaps and cyclings lead to is reduced
  abbrev pub Round : Word Γ → Type 0
  Round x = (y : Word Γ) → Turns x y → Reduced Γ y
