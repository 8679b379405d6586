-- The parts of a cyclically reduced word are cyclically reduced, and so is what settling makes of them.
use Rattle.std.specs.Prelude.{ℕ, refl, [], ◌∷◌, ◌++◌}
use Rattle.std.proofs.Common.{sym, subst, append-nil, append_assoc}
use Rattle.theory_words.specs.All.{All, all_along, all_append}
use Rattle.theory_words.specs.Alphabet.{Alphabet, Word}
use Rattle.theory_words.specs.Trace as Trace
use Rattle.theory_words.specs.TraceLaws.{~_before, ~_after, ~_sym, apart_pass}
use Rattle.theory_words.specs.ReduceLaws.{reduced_prefix}
use Rattle.theory_conjugacy.specs.Turn.{Turns, same, turn, also, Round}
use Rattle.theory_conjugacy.specs.TurnLaws.{turns_of_≡}
use Rattle.theory_conjugacy.specs.CommandLaws.{now, apart_occurs, occurs_back}
use Rattle.theory_conjugacy.specs.Part.{part}
use Rattle.theory_conjugacy.specs.PartLaws.{Independent}
use Rattle.theory_conjugacy.specs.PartedLaws.{others, part_parted}

module _ (Γ : Alphabet) where
  open Γ use {Letter, cmd}

  infix 20 ◌~◌
  abbrev ◌~◌ : Word Γ → Word Γ → Type 0
  ◌~◌ = Trace.◌~◌ Γ

  pub turns_all : (P : Letter → Type 0) {x y : Word Γ} → Turns Γ x y → All P x → All P y
  turns_all P (same e) h = all_along Γ P e h
  turns_all P (turn {a = a} {z = z}) h = all_append P z (a ∷ []) h.1 (h.0, tt)
  turns_all P (also s t) h = turns_all P t (turns_all P s h)

  -- cyclings of a word beside one that is independent of it
  turns_beside : {x y : Word Γ} (r : Word Γ) → Turns Γ x y → Independent Γ x r → Turns Γ (x ++ r) (y ++ r)
  turns_beside r (same e) h = same (~_after Γ e r)
  turns_beside r (turn {a = a} {z = z}) h =
      let k : (r ++ a ∷ []) ~ (a ∷ r) = subst (λ (s : Word Γ). (r ++ a ∷ []) ~ (a ∷ s)) (append-nil r)
      (~_sym Γ (apart_pass Γ a r (apart_occurs Γ a r (λ i o. h (cmd a) i (now refl) o)) [])) in
      also turn (also (turns_of_≡ Γ (append_assoc z r (a ∷ [])))
      (also (same (~_before Γ z k)) (turns_of_≡ Γ (sym (append_assoc z (a ∷ []) r)))))
  turns_beside r (also s t) h = also (turns_beside r s h) (turns_beside r t (λ i j o p. h i j (occurs_back Γ s o) p))

  round_factor : {x : Word Γ} (p r : Word Γ) → Round Γ x → x ~ (p ++ r) → Independent Γ p r → Round Γ p
  round_factor p r k e h y t = reduced_prefix Γ y r (k (y ++ r) (also (same e) (turns_beside r t h)))

  pub part_round : (m : ℕ) (x : Word Γ) → Round Γ x → Round Γ (part Γ m x)
  part_round m x k =
      let d = part_parted Γ m x in
      round_factor (part Γ m x) (others Γ m x) k d.parted d.apart
