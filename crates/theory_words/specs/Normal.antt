-- The normal form of a word, computed: reduce it, then take, at each place, the letter of the smallest command that no
-- conflicting command precedes among those left. And the order in which it is the first.
use Rattle.std.specs.Prelude.{ℕ, zero, suc, ◌<◌, ◌≤◌, Bool, true, false, ◌||◌, List, [], ◌∷◌, length, ltb}
use Rattle.std.proofs.Math.Option.{Option, none, some}
use Rattle.theory_words.specs.Alphabet.{Alphabet, Word}
use Rattle.theory_words.specs.Trace.{First}
use Rattle.theory_words.specs.Filter.{drop_if}
use Rattle.theory_words.specs.Reduce.{without, reduce}

module _ (Γ : Alphabet) where
  open Γ use {Letter, cmd, conf}

  -- does command k conflict with one of these commands
  unfoldable pub meets : ℕ → List ℕ → Bool
  meets k [] = false
  meets k (j ∷ js) = conf k j || meets k js

  -- the letters of w that can come first behind letters of the commands js
  unfoldable pub firsts : List ℕ → Word Γ → Word Γ
  firsts js [] = []
  firsts js (a ∷ w) = drop_if (meets (cmd a) js) a (firsts (cmd a ∷ js) w)

  unfoldable pub least_step : Bool → Letter → Letter → Letter
  least_step true a b = a
  least_step false a b = b

  -- the letter of the smallest command
  unfoldable pub least : Letter → Word Γ → Letter
  least a [] = a
  least a (b ∷ w) = least (least_step (ltb (cmd b) (cmd a)) b a) w

  unfoldable pub rest : Option (Word Γ) → Word Γ
  rest none = []
  rest (some r) = r

  -- the smallest of the first letters, then what `again` makes of the letters left
  unfoldable pub lex_step : Word Γ → Word Γ → (Word Γ → Word Γ) → Word Γ
  lex_step w [] again = []
  lex_step w (a ∷ bs) again = least a bs ∷ again (rest (without Γ (least a bs) w))

  -- n letters of w, the smallest that can come first each time
  unfoldable pub lex : ℕ → Word Γ → Word Γ
  lex zero w = []
  lex (suc n) w = lex_step w (firsts [] w) (lex n)

  unfoldable pub nf : Word Γ → Word Γ
  nf w = lex (length (reduce Γ w)) (reduce Γ w)

  -- at each place stands the smallest command that can come first there
  abbrev pub Ordered : Word Γ → Type 0
  Ordered [] = Unit {0}
  Ordered (c ∷ w) = ((d : Letter) → First Γ d (c ∷ w) → cmd c ≤ cmd d) × Ordered w

  -- at the first difference v has the smaller command
  pub data Smaller : Word Γ → Word Γ → Type 0 where
    at : {a b : Letter} {v w : Word Γ} → cmd a < cmd b → Smaller (a ∷ v) (b ∷ w)
    on : {a : Letter} {v w : Word Γ} → Smaller v w → Smaller (a ∷ v) (a ∷ w)
