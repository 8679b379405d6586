-- Whether two lists are the same, where it can be told of two elements; for numbers, alike?.
use Rattle.std.specs.Prelude.{ℕ, ◌≡◌, Bool, true, false, List, [], ◌∷◌}
use Rattle.std.proofs.Math.Decide.{ℕ_discrete}

module _ {A : Type 0} (same : Discrete A) where
  unfoldable pub agree_step : {a b : A} → Dec (a ≡ b) → Bool → Bool
  agree_step (yes e) t = t
  agree_step (no n) t = false

  unfoldable pub agree : List A → List A → Bool
  agree [] [] = true
  agree [] (b ∷ y) = false
  agree (a ∷ x) [] = false
  agree (a ∷ x) (b ∷ y) = agree_step (same a b) (agree x y)

abbrev pub alike? : List ℕ → List ℕ → Bool
alike? = agree ℕ_discrete
