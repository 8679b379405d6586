-- How a word conjugates one cyclically reduced word to another: it commutes with the first for an evident reason, then
-- runs along forward cyclings.
use Rattle.std.specs.Prelude.{[], ◌∷◌, ◌++◌}
use Rattle.theory_words.specs.Alphabet.{Alphabet, Word}
use Rattle.theory_words.specs.Trace as Trace
use Rattle.theory_words.specs.Trace.{Pick}
use Rattle.theory_words.specs.TraceLaws.{Apart}
use Rattle.theory_words.specs.Group as Group
use Rattle.theory_words.specs.Group.{undo}

module _ (Γ : Alphabet) where
  open Γ use {Letter}

  infix 20 ◌~◌ ◌≈◌
  abbrev ◌~◌ : Word Γ → Word Γ → Type 0
  ◌~◌ = Trace.◌~◌ Γ

  abbrev ◌≈◌ : Word Γ → Word Γ → Type 0
  ◌≈◌ = Group.◌≈◌ Γ

  -- cycling the letters f, each able to come first in its turn, leads from x to y
  pub data Run : Word Γ → Word Γ → Word Γ → Type 0 where
    stop : {x y : Word Γ} → x ~ y → Run x [] y
    step : {a : Letter} {x r f y : Word Γ} → Pick Γ a x r → Run (r ++ a ∷ []) f y → Run x (a ∷ f) y

  -- m is a product of x, of x undone, and of letters independent of every letter of x
  pub data Centre (x : Word Γ) : Word Γ → Type 0 where
    nothing : Centre x []
    itself : {m : Word Γ} → Centre x m → Centre x (x ++ m)
    minus : {m : Word Γ} → Centre x m → Centre x (undo Γ x m)
    free : {a : Letter} {m : Word Γ} → Apart Γ a x → Centre x m → Centre x (a ∷ m)

  pub data Way (x u y : Word Γ) : Type 0 where
    goes : {m f : Word Γ} → Centre x m → Run x f y → u ≈ (m ++ f) → Way x u y
