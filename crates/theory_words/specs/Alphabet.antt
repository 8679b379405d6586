-- An alphabet: letters, each with an undo and a command, and which commands conflict.
-- Nothing says that a letter differs from its undo.
use Rattle.std.specs.Prelude.{ℕ, ◌≡◌, Bool, true, List}

pub record Alphabet : Type 1 where
  pub Letter : Type 0
  pub same : Discrete Letter
  pub inv : Letter → Letter
  pub cmd : Letter → ℕ
  pub conf : ℕ → ℕ → Bool
  pub inv-inv : (a : Letter) → inv (inv a) ≡ a
  pub cmd-inv : (a : Letter) → cmd (inv a) ≡ cmd a
  pub conf_refl : (k : ℕ) → conf k k ≡ true
  pub conf_sym : (j k : ℕ) → conf j k ≡ conf k j

module _ (Γ : Alphabet) where
  abbrev pub Word : Type 0
  Word = List Γ.Letter

  -- two letters are dependent if their commands conflict
  abbrev pub dep : Γ.Letter → Γ.Letter → Bool
  dep a b = Γ.conf (Γ.cmd a) (Γ.cmd b)
