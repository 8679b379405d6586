-- A word without its first letters: of each command as many as a number says.
use Rattle.std.specs.Prelude.{ℕ, suc, ◌≡◌, Bool, true, false, [], ◌∷◌, eqb}
use Rattle.theory_words.specs.Alphabet.{Alphabet, Word}

-- m is n with one less for command k
pub record Less (n : ℕ → ℕ) (k : ℕ) (m : ℕ → ℕ) : Type 0 where
  pub own : n k ≡ suc (m k)
  pub others : (j : ℕ) → ¬ (j ≡ k) → n j ≡ m j

-- one more, or not
abbrev pub tally_step : Bool → ℕ → ℕ
tally_step true n = suc n
tally_step false n = n

module _ (Γ : Alphabet) where
  open Γ use {Letter, cmd}

  -- how many letters of command k a word has
  unfoldable pub tally : Word Γ → ℕ → ℕ
  tally [] k = 0
  tally (a ∷ g) k = tally_step (eqb (cmd a) k) (tally g k)

  -- y is x without the first n k letters of each command k, or without all of them where they are fewer
  pub data Trims : (ℕ → ℕ) → Word Γ → Word Γ → Type 0 where
    none : {n : ℕ → ℕ} → Trims n [] []
    keep : {n : ℕ → ℕ} {a : Letter} {x y : Word Γ} → n (cmd a) ≡ 0 → Trims n x y → Trims n (a ∷ x) (a ∷ y)
    off : {n m : ℕ → ℕ} {a : Letter} {x y : Word Γ} → Less n (cmd a) m → Trims m x y → Trims n (a ∷ x) y
