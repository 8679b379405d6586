-- The comparison of two lists is exact.
use Rattle.std.specs.Prelude.{ℕ, ◌≡◌, false, ◌↔◌}
use Rattle.std.proofs.Math.Path.{refl}
use Rattle.std.proofs.Common.{sym, ◌∙◌, ap, true≢false}
use Rattle.std.proofs.Math.Bool.{true}
use mathlib.Core.List.{List, [], ◌∷◌}
use Rattle.std.proofs.Math.Decide.{ℕ_discrete}
use Rattle.theory_words.specs.Alike.{agree, agree_step, alike?}

module _ {A : Type 0} (same : Discrete A) where
  pub agree-true : (x y : List A) → agree same x y ≡ true → x ≡ y
  unfolding agree agree_step
  agree-true [] [] e = refl
  agree-true [] (b ∷ y) e = absurd (true≢false (sym e))
  agree-true (a ∷ x) [] e = absurd (true≢false (sym e))
  agree-true (a ∷ x) (b ∷ y) e = go (same a b) e (agree-true x y)
    where
      go : (d : Dec (a ≡ b)) → agree_step same d (agree same x y) ≡ true → (agree same x y ≡ true → x ≡ y)
          → a ∷ x ≡ b ∷ y
      go (yes s) e ih = let t : x ≡ y = ih e in cc
      go (no n) e ih = absurd (true≢false (sym e))

  pub agree_refl : (x : List A) → agree same x x ≡ true
  unfolding agree agree_step
  agree_refl [] = refl
  agree_refl (a ∷ x) = go (same a a) (agree_refl x)
    where
      go : (d : Dec (a ≡ a)) → agree same x x ≡ true → agree_step same d (agree same x x) ≡ true
      go (yes s) e = e
      go (no n) e = absurd (n refl)

  pub agree-false : (x y : List A) → agree same x y ≡ false → ¬ (x ≡ y)
  agree-false x y e k = true≢false (sym (agree_refl x) ∙ ap (agree same x) k ∙ e)

pub alike_true : (is js : List ℕ) → alike? is js ≡ true → is ≡ js
alike_true = agree-true ℕ_discrete

pub alike_refl : (is : List ℕ) → alike? is is ≡ true
alike_refl = agree_refl ℕ_discrete

pub alike_exact : (is js : List ℕ) → (alike? is js ≡ true) ↔ (is ≡ js)
alike_exact is js = (alike_true is js, λ e. rw (← e) (alike_refl is))
