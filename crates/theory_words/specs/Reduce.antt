-- Reduction of a word, computed: letters are taken from the right end and put before what is reduced already, where
-- a letter whose undo can come first cancels with it.
use Rattle.std.specs.Prelude.{Bool, true, false, [], ◌∷◌, ◌≡◌}
use Rattle.std.proofs.Math.Option.{Option, none, some}
use Rattle.theory_words.specs.Alphabet.{Alphabet, Word, dep}

module _ (Γ : Alphabet) where
  open Γ use {Letter, inv, same}

  -- the answer at b ∷ w: b is the letter or not, the letter depends on b or not, the answer at w
  unfoldable pub without_step : {c b : Letter} → Word Γ → Dec (c ≡ b) → Bool → Option (Word Γ) → Option (Word Γ)
  without_step w (yes e) d o = some w
  without_step w (no n) true o = none
  without_step {b = b} w (no n) false none = none
  without_step {b = b} w (no n) false (some r) = some (b ∷ r)

  -- w without the first c in it, if c can come first
  unfoldable pub without : Letter → Word Γ → Option (Word Γ)
  without c [] = none
  without c (b ∷ w) = without_step {c = c} {b = b} w (same c b) (dep Γ c b) (without c w)

  unfoldable pub act_step : Letter → Word Γ → Option (Word Γ) → Word Γ
  act_step a w none = a ∷ w
  act_step a w (some r) = r

  -- a put before w, or taken out with its undo
  unfoldable pub act : Letter → Word Γ → Word Γ
  act a w = act_step a w (without (inv a) w)

  unfoldable pub reduce : Word Γ → Word Γ
  reduce [] = []
  reduce (a ∷ w) = act a (reduce w)
