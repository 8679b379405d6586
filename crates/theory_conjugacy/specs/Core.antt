-- The core of a word (the field's cyclically reduced form), computed: a word is reduced; then, while some letter can
-- come first and, with it taken out, its undo can come last, both are taken off.
use Rattle.std.specs.Prelude.{ℕ, zero, suc, [], ◌∷◌, ◌++◌, length}
use Rattle.std.proofs.Math.Option.{Option, none, some}
use Rattle.theory_words.specs.Alphabet.{Alphabet, Word}
use Rattle.theory_words.specs.Trace as Trace
use Rattle.theory_words.specs.Trace.{Pick}
use Rattle.theory_words.specs.Group.{undo}
use Rattle.theory_words.specs.Reduce.{without, reduce}
use Rattle.theory_conjugacy.specs.Turn.{Tight}

module _ (Γ : Alphabet) where
  open Γ use {Letter, inv}

  infix 20 ◌~◌
  abbrev ◌~◌ : Word Γ → Word Γ → Type 0
  ◌~◌ = Trace.◌~◌ Γ

  -- z is what is left of x when pairs are taken off until none is left, the letters g in front and their undos behind
  pub data Cores : Word Γ → Word Γ → Word Γ → Type 0 where
    bare : {x z : Word Γ} → Tight Γ x → x ~ z → Cores x [] z
    peel : {c : Letter} {x r s g z : Word Γ} → Pick Γ c x r → r ~ (s ++ inv c ∷ []) → Cores s g z → Cores x (c ∷ g) z

  unfoldable pub undone : Option (Word Γ) → Option (Word Γ)
  undone none = none
  undone (some r) = some (undo Γ r [])

  unfoldable pub without_last : Letter → Option (Word Γ) → Option (Word Γ)
  without_last c none = none
  without_last c (some r) = undone (without Γ c (undo Γ r []))

  -- x without c at its front and the undo of c at its end, if c can come first and then its undo can come last
  unfoldable pub between : Letter → Word Γ → Option (Word Γ)
  between c x = without_last c (without Γ c x)

  unfoldable pub pair_step : Letter → Option (Word Γ) → Option (Letter × Word Γ) → Option (Letter × Word Γ)
  pair_step c none o = o
  pair_step c (some s) o = some (c, s)

  -- the first of these letters that can be taken off x with its undo, and what is left of x
  unfoldable pub pair : Word Γ → Word Γ → Option (Letter × Word Γ)
  pair x [] = none
  pair x (c ∷ cs) = pair_step c (between c x) (pair x cs)

  unfoldable pub peels_step : Word Γ → Option (Letter × Word Γ) → (Word Γ → Word Γ × Word Γ) → Word Γ × Word Γ
  peels_step x none again = ([], x)
  peels_step x (some p) again = let (g, z) = again p.1 in (p.0 ∷ g, z)

  -- at most n pairs taken off x: the letters in front, and what is left
  unfoldable pub peels : ℕ → Word Γ → Word Γ × Word Γ
  peels zero x = ([], x)
  peels (suc n) x = peels_step x (pair x x) (peels n)

  -- the letters taken off in front: w is lead w, core w, and lead w undone
  unfoldable pub lead : Word Γ → Word Γ
  lead w = (peels (length (reduce Γ w)) (reduce Γ w)).0

  unfoldable pub core : Word Γ → Word Γ
  core w = (peels (length (reduce Γ w)) (reduce Γ w)).1
