-- Which letters of a word a letter stays before: those that a chain of dependent letters leads to from it.
use Rattle.std.specs.Prelude.{ℕ, ◌≡◌, true, List, [], ◌∷◌}
use Rattle.theory_words.specs.Alphabet.{Alphabet, Word}
use Rattle.theory_words.specs.Filter.{keep_if}
use Rattle.theory_words.specs.Normal.{meets}

module _ (Γ : Alphabet) where
  open Γ use {Letter, cmd, conf}

  -- the commands ks, and those of the letters of w that a chain of dependent letters leads to from one of ks; a command
  -- is raised as often as its letters are
  unfoldable pub raised : List ℕ → Word Γ → List ℕ
  raised ks [] = ks
  raised ks (b ∷ w) = raised (keep_if (meets Γ (cmd b) ks) (cmd b) ks) w

  -- a chain of dependent letters leads from command k, before w, to the letter b in w
  pub data Leads (b : Letter) : ℕ → Word Γ → Type 0 where
    ends : {k : ℕ} {w : Word Γ} → conf k (cmd b) ≡ true → Leads b k (b ∷ w)
    over : {k : ℕ} {a : Letter} {w : Word Γ} → conf k (cmd a) ≡ true → Leads b (cmd a) w → Leads b k (a ∷ w)
    past : {k : ℕ} {a : Letter} {w : Word Γ} → Leads b k w → Leads b k (a ∷ w)

  -- such a chain leads from a letter a of w to a letter b behind it
  pub data Linked (a b : Letter) : Word Γ → Type 0 where
    from : {w : Word Γ} → Leads b (cmd a) w → Linked a b (a ∷ w)
    later : {c : Letter} {w : Word Γ} → Linked a b w → Linked a b (c ∷ w)
