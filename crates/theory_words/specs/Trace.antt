-- Words up to swaps of independent neighbours (traces), and which letters can come first.
use Rattle.std.specs.Prelude.{◌≡◌, false, [], ◌∷◌}
use Rattle.theory_words.specs.Alphabet.{Alphabet, Word, dep}

module _ (Γ : Alphabet) where
  open Γ use {Letter}

  infix 20 ◌~◌
  -- v ~ w: swaps of independent neighbours lead from v to w
  pub data ◌~◌ : Word Γ → Word Γ → Type 0 where
    done : [] ~ []
    cons : {a : Letter} {v w : Word Γ} → v ~ w → (a ∷ v) ~ (a ∷ w)
    swap : {a b : Letter} {w : Word Γ} → dep Γ a b ≡ false → (a ∷ b ∷ w) ~ (b ∷ a ∷ w)
    next : {u v w : Word Γ} → u ~ v → v ~ w → u ~ w

  -- c can come first in w, and r is left
  pub data Pick (c : Letter) : Word Γ → Word Γ → Type 0 where
    here : {w : Word Γ} → Pick c (c ∷ w) w
    there : {b : Letter} {w r : Word Γ} → dep Γ c b ≡ false → Pick c w r → Pick c (b ∷ w) (b ∷ r)

  abbrev pub First : Letter → Word Γ → Type 0
  First c w = (r : Word Γ) × Pick c w r
