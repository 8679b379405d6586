-- Laws of cyclings and of cyclically reduced words.
use Rattle.std.specs.Prelude.{◌≡◌, Bool, [], ◌∷◌, ◌++◌, length}
use Rattle.std.proofs.Common.{sym, ◌∙◌, append-nil, append_assoc, length-append, arith}
use Rattle.std.proofs.Math.Path.{subst}
use Rattle.std.proofs.Math.Bool.{true, false}
use Rattle.theory_words.specs.Alphabet.{Alphabet, Word}
use Rattle.theory_words.specs.Trace as Trace
use Rattle.theory_words.specs.Trace.{Pick, here, there, First}
use Rattle.theory_words.specs.Group.{Reduced, undo}
use Rattle.theory_words.specs.TraceLaws.{~_refl, ~_sym, ~-length, pick_front, pick_along, pick_after, first_along}
use Rattle.theory_words.specs.TraceLaws.{not_first_nil, not_first_cons, Splits, early, late, pick_split}
use Rattle.theory_words.specs.GroupLaws.{dep-inv_right, undo_onto, undo-append, ~-undo}
use Rattle.theory_words.specs.Filter.{filter, keep_if}
use Rattle.theory_words.specs.FilterLaws.{filter-append, filter-~}
use Rattle.theory_words.specs.ReduceLaws.{reduced_along, reduced_append}
use Rattle.theory_conjugacy.specs.WordLaws.{~_of_≡, pick_one}
use Rattle.theory_conjugacy.specs.Turn.{Turns, same, turn, also, Tight, Round}

module _ (Γ : Alphabet) where
  open Γ use {Letter, inv}

  infix 20 ◌~◌
  abbrev ◌~◌ : Word Γ → Word Γ → Type 0
  ◌~◌ = Trace.◌~◌ Γ

  pub turns_refl : (x : Word Γ) → Turns Γ x x
  turns_refl x = same (~_refl Γ x)

  pub turns_of_≡ : {x y : Word Γ} → x ≡ y → Turns Γ x y
  turns_of_≡ e = same (~_of_≡ Γ e)

  -- cycling a whole front
  pub turns_rotate : (p q : Word Γ) → Turns Γ (p ++ q) (q ++ p)
  turns_rotate [] q = turns_of_≡ (sym (append-nil q))
  turns_rotate (a ∷ p) q =
      also turn
      (also (turns_of_≡ (append_assoc p q (a ∷ [])))
      (also (turns_rotate p (q ++ a ∷ [])) (turns_of_≡ (append_assoc q (a ∷ []) p))))

  -- cycling any letter that can come first
  pub turns_pick : {c : Letter} {x r : Word Γ} → Pick Γ c x r → Turns Γ x (r ++ c ∷ [])
  turns_pick p = also (same (pick_front Γ p)) turn

  pub turns_length : {x y : Word Γ} → Turns Γ x y → length x ≡ length y
  turns_length (same e) = ~-length Γ e
  turns_length (turn {a = a} {z = z}) = omega (arith, length-append z (a ∷ []))
  turns_length (also s t) = turns_length s ∙ turns_length t

  pub round_turns : {x y : Word Γ} → Turns Γ x y → Round Γ x → Round Γ y
  round_turns s r z t = r z (also s t)

  pub round_~ : {x y : Word Γ} → x ~ y → Round Γ x → Round Γ y
  round_~ e r = round_turns (same e) r

  pub round_reduced : (x : Word Γ) → Round Γ x → Reduced Γ x
  round_reduced x r = r x (turns_refl x)

  pub tight_along : {x y : Word Γ} → x ~ y → Tight Γ x → Tight Γ y
  tight_along e t c r p f =
      let (s, q, d) = pick_along Γ (~_sym Γ e) p in
      t c s q (first_along Γ (~-undo Γ d []) f)

  -- cycling keeps a word reduced and tight
  reduced_turn : {a : Letter} {z : Word Γ} → Reduced Γ (a ∷ z) → Tight Γ (a ∷ z) → Reduced Γ (z ++ a ∷ [])
  reduced_turn {a} {z} r t = reduced_append Γ z (a ∷ []) r.1 (not_first_nil Γ, tt) meet
    where
      meet : (c : Letter) → First Γ c (a ∷ []) → ¬ First Γ c (undo Γ z [])
      meet c (s, p) f = t a z here (subst (λ (b : Letter). First Γ b (undo Γ z [])) (pick_one Γ p).0 f)

  tight_turn : {a : Letter} {z : Word Γ} → Reduced Γ (a ∷ z) → Tight Γ (a ∷ z) → Tight Γ (z ++ a ∷ [])
  tight_turn {a} {z} r t c s p f = go (pick_split Γ z (a ∷ []) p)
    where
      -- c and its undo stand behind and before a
      inner : (s : Word Γ) → Pick Γ c z s → ¬ First Γ c (inv a ∷ undo Γ s [])
      inner s q = not_first_cons Γ
          (λ e. r.0 (s, subst (λ (b : Letter). Pick Γ b z s) e q))
          (λ d k. t c (a ∷ s) (there (sym (dep-inv_right Γ c a) ∙ d) q)
          (rw (undo_onto inv s (inv a ∷ [])) (k.0 ++ inv a ∷ [], pick_after Γ k.1 (inv a ∷ []))))

      go : Splits Γ c z (a ∷ []) s → ⊥
      go (early s q e) = inner s q (rw (e, undo-append inv s (a ∷ []) []) at f)
      go (late s k q e) =
          let g : First Γ c (undo Γ z []) = rw (e, (pick_one Γ q).1, append-nil z) at f in
          t a z here (subst (λ (b : Letter). First Γ b (undo Γ z [])) (pick_one Γ q).0 g)

  both_turns : {x y : Word Γ} → Turns Γ x y → Reduced Γ x × Tight Γ x → Reduced Γ y × Tight Γ y
  both_turns (same e) (r, t) = (reduced_along Γ e r, tight_along e t)
  both_turns turn (r, t) = (reduced_turn r t, tight_turn r t)
  both_turns (also s u) k = both_turns u (both_turns s k)

  -- the manual's test is enough
  pub tight_round : (x : Word Γ) → Reduced Γ x → Tight Γ x → Round Γ x
  tight_round x r t y s = (both_turns s (r, t)).0

  -- cyclings of a word, in the letters that pass a test
  keep_if_turn : (t : Bool) (a : Letter) (w : Word Γ) → Turns Γ (keep_if t a w) (w ++ keep_if t a [])
  unfolding keep_if
  keep_if_turn true a w = turn
  keep_if_turn false a w = turns_of_≡ (sym (append-nil w))

  pub filter_turns : (f : Letter → Bool) {x y : Word Γ} → Turns Γ x y → Turns Γ (filter f x) (filter f y)
  unfolding filter
  filter_turns f (same e) = same (filter-~ Γ f e)
  filter_turns f (turn {a = a} {z = z}) =
      subst (Turns Γ (filter f (a ∷ z))) (sym (filter-append f z (a ∷ []))) (keep_if_turn (f a) a (filter f z))
  filter_turns f (also s t) = also (filter_turns f s) (filter_turns f t)
