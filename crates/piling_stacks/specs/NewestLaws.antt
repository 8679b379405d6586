-- Laws of the newest letters: the letter that cancels is the newest of its command, and no other command loses one.
use Rattle.std.specs.Prelude.{ℕ, ◌≡◌, false, List, [], ◌∷◌, eqb}
use Rattle.std.proofs.Common.{sym, ◌∙◌, ap, true≢false, eq-eqb, ne_eqb}
use Rattle.std.proofs.Math.Decide.{ℕ_discrete}
use Rattle.theory_words.specs.All.{All}
use Rattle.theory_words.specs.Filter.{keep_if}
use Rattle.theory_words.specs.FilterLaws.{keep_if_all}
use Rattle.spec.specs.Conflict.{conflict}
use Rattle.spec.specs.Byte.{command_of}
use Rattle.spec.specs.AlphabetLaws.{command_undone, conflict_refl}
use Rattle.spec.specs.Pairs.{Placed}
use Rattle.spec_laws.specs.PartnerLaws.{Met, at, behind}
use Rattle.piling_stacks.specs.Newest.{of_command}

-- the two cases of the newest letter of all

pub of_own : (k : ℕ) (x : Placed) (t : List Placed) → command_of x.byte ≡ k
    → of_command k (x ∷ t) ≡ x.place ∷ of_command k t
unfolding of_command keep_if
of_own k x t e = rw (eq-eqb (command_of x.byte) k e)

pub of_other : (k : ℕ) (x : Placed) (t : List Placed) → ¬ (command_of x.byte ≡ k)
    → of_command k (x ∷ t) ≡ of_command k t
unfolding of_command keep_if
of_other k x t n = rw (ne_eqb (command_of x.byte) k n)

pub of_all : (P : ℕ → Type 0) (k : ℕ) (t : List Placed) → All (λ x. P x.place) t → All P (of_command k t)
unfolding of_command
of_all P k [] h = tt
of_all P k (x ∷ t) h =
    keep_if_all P (eqb (command_of x.byte) k) x.place (of_command k t) (λ e. h.0) (of_all P k t h.1)

-- a letter that does not conflict is of another command
free_other : (c : List ℕ) (b : ℕ) (x : Placed) → conflict c (command_of b) (command_of x.byte) ≡ false
    → ¬ (command_of x.byte ≡ command_of b)
free_other c b x d e =
    true≢false (sym (conflict_refl c (command_of b)) ∙ ap (conflict c (command_of b)) (sym e) ∙ d)

module _ (c : List ℕ) {b : ℕ} where
  -- the letter that cancels is the newest of its command
  pub met_newest : {p : ℕ} {t r : List Placed} → Met c b t p r
      → of_command (command_of b) t ≡ p ∷ of_command (command_of b) r
  met_newest (at {x = x} {t = t} e) = of_own (command_of b) x t (ap command_of e ∙ command_undone b)
  met_newest {p} (behind {x = x} {t = t} {r = r} d m) =
      let n = free_other c b x d in
      of_other (command_of b) x t n ∙ met_newest m ∙ ap (λ ps. p ∷ ps) (sym (of_other (command_of b) x r n))

  -- the other commands have the letters that they had
  pub met_others : {p : ℕ} {t r : List Placed} → Met c b t p r → (j : ℕ) → ¬ (command_of b ≡ j)
      → of_command j t ≡ of_command j r
  met_others (at {x = x} {t = t} e) j n =
      of_other j x t (λ f. n (sym (ap command_of e ∙ command_undone b) ∙ f))
  met_others (behind {x = x} {t = t} {r = r} d m) j n = go (ℕ_discrete (command_of x.byte) j) (met_others m j n)
    where
      go : Dec (command_of x.byte ≡ j) → of_command j t ≡ of_command j r → of_command j (x ∷ t) ≡ of_command j (x ∷ r)
      go (yes e) f = of_own j x t e ∙ ap (λ ps. x.place ∷ ps) f ∙ sym (of_own j x r e)
      go (no o) f = of_other j x t o ∙ f ∙ sym (of_other j x r o)
