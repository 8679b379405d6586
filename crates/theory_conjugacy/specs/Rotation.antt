-- Rotations of a word, and the search for the first starting place at which one word, read round, is another.
use Rattle.std.specs.Prelude.{ℕ, zero, suc, max, Bool, true, false, List, [], ◌∷◌, ◌++◌, length, take, drop}
use Rattle.std.proofs.Math.Option.{Option, none, some}
use Rattle.theory_words.specs.Alike.{agree}
use Rattle.theory_words.specs.Alphabet.{Alphabet, Word}

-- r read round, from place i on
abbrev pub rotate : {A : Type 0} → ℕ → List A → List A
rotate i r = drop i r ++ take i r

module _ (Γ : Alphabet) where
  open Γ use {Letter, same}

  unfoldable pub search_step : Bool → ℕ → (ℕ → Option ℕ) → Option ℕ
  search_step true i again = some i
  search_step false i again = again (suc i)

  -- the first of n starting places from i on at which r is t
  unfoldable pub search : Word Γ → Word Γ → ℕ → ℕ → Option ℕ
  search r t zero i = none
  search r t (suc n) i = search_step (agree same (rotate i r) t) i (search r t n)

  -- the first starting place at which r is t; the empty word has the one place 0
  unfoldable pub rotation : Word Γ → Word Γ → Option ℕ
  rotation r t = search r t (max 1 (length r)) 0

  -- some rotation of r is t
  pub data Rotated : Word Γ → Word Γ → Type 0 where
    stay : {r : Word Γ} → Rotated r r
    roll : {b : Letter} {r t : Word Γ} → Rotated (r ++ b ∷ []) t → Rotated (b ∷ r) t
