-- The normal form of a plan of bytes: equal to the plan, no longer than any equal plan, and the first of those of its
-- length. Equal plans are those of one normal form.
use Rattle.std.specs.Prelude.{ℕ, ◌≤◌, ◌≡◌, refl, List, [], ◌∷◌, Bool, true, false, ◌↔◌, ◌⊎◌, eqb}
use Rattle.std.proofs.Common.{sym, ◌∙◌, ap, inl, inr, arith}
use Rattle.std.proofs.Math.Nat.{le_trans}
use Rattle.std.proofs.Math.ListN.{length}
use Rattle.theory_words.specs.Filter.{filter}
use Rattle.theory_words.specs.Normal.{Smaller}
use Rattle.theory_words.specs.NormalLaws.{nf-≈, nf_complete, nf_sound, nf-length, nf_least, nf_first}
use Rattle.theory_words.specs.ReduceLaws.{reduce-length}
use Rattle.theory_words.specs.LetterLaws.{all_nf}
use Rattle.spec.specs.Catalogue.{commands}
use Rattle.spec.specs.Plan.{is_command, Passing}
use Rattle.spec.specs.Letters.{letters, alphabet, normal_form}
use Rattle.spec_laws.specs.LettersLaws.{Commands, letters_commands, commands_passing, letters_same}
use Rattle.spec_laws.specs.LettersLaws.{letters-length, letters_filler, letters_letter}
use Rattle.spec.specs.Step.{Equal}
use Rattle.spec_laws.specs.StepLaws.{equal_exact, equal_words, equal_right, equal_trans}
use Rattle.spec.specs.Order.{Earlier}
use Rattle.spec_laws.specs.OrderLaws.{smaller_earlier}
use Rattle.spec.specs.Demands.{Shortest}

-- a plan with no filler is its own word
pub letters_full : (v : List ℕ) → length (letters v) ≡ length v → letters v ≡ v
unfolding letters filter
letters_full [] e = refl
letters_full (b ∷ v) e = go (eqb b 0) refl (letters_full v)
  where
    go : (t : Bool) → eqb b 0 ≡ t → (length (letters v) ≡ length v → letters v ≡ v) → letters (b ∷ v) ≡ b ∷ v
    go true z f = absurd (omega (arith, letters-length v, ap length (sym (letters_filler b v z)) ∙ e))
    go false z f =
        letters_letter b v z ∙ ap (λ x. b ∷ x) (f (omega (arith, ap length (sym (letters_letter b v z)) ∙ e)))

module _ (c : List ℕ) where
  pub normal_length : (v : List ℕ) → length (normal_form c v) ≤ length v
  unfolding normal_form
  normal_length v =
      let g = alphabet c in
      omega (arith, nf-length g (letters v), reduce-length g (letters v), letters-length v)

  pub normal_commands : (v : List ℕ) → Passing (commands c) v → Commands (commands c) (normal_form c v)
  unfolding normal_form
  normal_commands v h =
      all_nf (alphabet c) (λ b. is_command (commands c) b ≡ true) (letters v) (letters_commands (commands c) v h)

  pub normal_passing : (v : List ℕ) → Passing (commands c) v → Passing (commands c) (normal_form c v)
  normal_passing v h = commands_passing (commands c) (normal_form c v) (normal_commands v h)

  pub normal_letters : (v : List ℕ) → Passing (commands c) v → letters (normal_form c v) ≡ normal_form c v
  normal_letters v h = letters_same (commands c) (normal_form c v) (normal_commands v h)

  pub normal_equal : (v : List ℕ) → Passing (commands c) v → Equal c (normal_form c v) v
  unfolding normal_form
  normal_equal v h =
      (equal_exact c (normal_form c v) v (normal_passing v h) h).1
      (rw (normal_letters v h) (nf-≈ (alphabet c) (letters v)))

  pub equal_normal : (v w : List ℕ) → Passing (commands c) v → Passing (commands c) w
      → (Equal c v w) ↔ (normal_form c v ≡ normal_form c w)
  unfolding normal_form
  equal_normal v w h k = (
    λ e. nf_complete (alphabet c) (equal_words c e),
    λ e. (equal_exact c v w h k).1 (nf_sound (alphabet c) (letters v) (letters w) e),
  )

  pub normal_least : (x v : List ℕ) → Equal c x v → length (normal_form c v) ≤ length x
  unfolding normal_form
  normal_least x v e =
      le_trans (nf_least (alphabet c) (letters x) (letters v) (equal_words c e)) (letters-length x)

  pub normal_first : (x v : List ℕ) → commands c ≤ 127 → Equal c x v → length x ≡ length (normal_form c v)
      → (x ≡ normal_form c v) ⊎ Earlier (normal_form c v) x
  unfolding normal_form
  normal_first x v m e l =
      let k : letters x ≡ x = letters_full x (omega (arith, least, letters-length x)) in
      go k (nf_first (alphabet c) (letters x) (letters v) (equal_words c e) (ap length k ∙ l))
    where
      least : length (normal_form c v) ≤ length (letters x)
      least = nf_least (alphabet c) (letters x) (letters v) (equal_words c e)

      go : letters x ≡ x → (letters x ≡ normal_form c v) ⊎ Smaller (alphabet c) (normal_form c v) (letters x)
          → (x ≡ normal_form c v) ⊎ Earlier (normal_form c v) x
      go k (inl p) = inl (sym k ∙ p)
      go k (inr s) = inr (smaller_earlier c (commands c) m (normal_passing v (equal_right c e)) (rw k at s))

  -- the three together
  pub normal_shortest : (v : List ℕ) → commands c ≤ 127 → Passing (commands c) v → Shortest c v (normal_form c v)
  normal_shortest v m h =
      record {
        equal = normal_equal v h;
        least = λ x q. normal_least x v (equal_trans c q (normal_equal v h));
        first = λ x q. normal_first x v m q;
      }
