-- Laws of words that conjugacy needs beside those of the theory_words crate: letters at the end of a word, and a search
-- among the letters that can come first.
use Rattle.std.specs.Prelude.{◌≡◌, refl, Bool, true, false, [], ◌∷◌, ◌++◌}
use Rattle.std.proofs.Common.{sym, ◌∙◌, ap, subst, true≢false}
use Rattle.theory_words.specs.Alphabet.{Alphabet, Word, dep}
use Rattle.theory_words.specs.Trace as Trace
use Rattle.theory_words.specs.Trace.{Pick, here, there, First}
use Rattle.theory_words.specs.Group.{undo}
use Rattle.theory_words.specs.TraceLaws.{dep_not, ~_refl, pick_nil, pick_along, cons_cancel, Apart, not_first_nil}
use Rattle.theory_words.specs.TraceLaws.{not_first_cons, Splits, early, late, pick_split}
use Rattle.theory_words.specs.GroupLaws.{~-undo, undo-append, undo_twice, pick_undo}

module _ (Γ : Alphabet) where
  open Γ use {Letter, inv}

  infix 20 ◌~◌
  abbrev ◌~◌ : Word Γ → Word Γ → Type 0
  ◌~◌ = Trace.◌~◌ Γ

  pub ~_of_≡ : {v w : Word Γ} → v ≡ w → v ~ w
  ~_of_≡ {v} e = subst (λ (x : Word Γ). v ~ x) e (~_refl Γ v)

  -- the only letter that can come first in a word of one letter
  pub pick_one : {c a : Letter} {r : Word Γ} → Pick Γ c (a ∷ []) r → (c ≡ a) × (r ≡ [])
  pick_one here = (refl, refl)
  pick_one (there d p) = absurd (pick_nil Γ p)

  pub inv_cancel : {a b : Letter} → inv a ≡ inv b → a ≡ b
  inv_cancel {a} {b} e = sym (Γ.inv-inv a) ∙ ap inv e ∙ Γ.inv-inv b

  -- words that are undone alike
  pub undo-~ : (v w : Word Γ) → undo Γ v [] ~ undo Γ w [] → v ~ w
  undo-~ v w e =
      subst (λ (x : Word Γ). x ~ w) (undo_twice Γ v)
      (subst (λ (x : Word Γ). undo Γ (undo Γ v []) [] ~ x) (undo_twice Γ w) (~-undo Γ e []))

  pub undo_last : (v : Word Γ) (a : Letter) → undo Γ (v ++ a ∷ []) [] ≡ inv a ∷ undo Γ v []
  undo_last v a = undo-append inv v (a ∷ []) []

  pub last_cancel : (v w : Word Γ) (a : Letter) → (v ++ a ∷ []) ~ (w ++ a ∷ []) → v ~ w
  last_cancel v w a e =
      let d : (inv a ∷ undo Γ v []) ~ (inv a ∷ undo Γ w []) = rw (undo_last v a, undo_last w a) at (~-undo Γ e []) in
      undo-~ v w (cons_cancel Γ d)

  -- a first letter that does not depend on the last one
  pub pick_before : {c a : Letter} {w r : Word Γ} (v : Word Γ) → dep Γ c a ≡ false → w ~ (v ++ a ∷ []) → Pick Γ c w r
      → (s : Word Γ) × Pick Γ c v s × (r ~ (s ++ a ∷ []))
  pick_before {c} {a} {r = r} v d e p =
      let (t, q, f) = pick_along Γ e p in
      go f (pick_split Γ v (a ∷ []) q)
    where
      go : {t : Word Γ} → r ~ t → Splits Γ c v (a ∷ []) t → (s : Word Γ) × Pick Γ c v s × (r ~ (s ++ a ∷ []))
      go f (early s q g) = (s, q, subst (λ (x : Word Γ). r ~ x) g f)
      go f (late s k q g) = absurd (dep_not Γ d (pick_one q).0)

  -- a first letter that does not stand at the head
  pub pick_behind : {c b : Letter} {w r : Word Γ} → ¬ (c ≡ b) → Pick Γ c (b ∷ w) r
      → (s : Word Γ) × Pick Γ c w s × (r ≡ b ∷ s)
  pick_behind n here = absurd (n refl)
  pick_behind n (there {r = s} d p) = (s, p, refl)

  -- two letters that can come last, either behind the other
  pub last_diamond : {a b : Letter} (v w : Word Γ) → ¬ (a ≡ b) → (v ++ a ∷ []) ~ (w ++ b ∷ [])
      → (q : Word Γ) × (v ~ (q ++ b ∷ [])) × (w ~ (q ++ a ∷ []))
  last_diamond {a} {b} v w n e =
      let d : (inv a ∷ undo Γ v []) ~ (inv b ∷ undo Γ w []) = rw (undo_last v a, undo_last w b) at (~-undo Γ e []) in
      let (t, p, f) = pick_along Γ d here in
      let (s, q, g) = pick_behind (λ i. n (inv_cancel i)) p in
      let h : undo Γ v [] ~ undo Γ (undo Γ s [] ++ b ∷ []) [] = rw (undo_last (undo Γ s []) b, undo_twice Γ s, ← g) f in
      (undo Γ s [], undo-~ v (undo Γ s [] ++ b ∷ []) h, rw (Γ.inv-inv a) at (pick_undo Γ w q))

  both? : {A B : Type 0} → Dec A → Dec B → Dec (A × B)
  both? (yes a) (yes b) = yes (a, b)
  both? (yes a) (no n) = no (λ k. n k.1)
  both? (no n) b = no (λ k. n k.0)

  false? : (t : Bool) → Dec (t ≡ false)
  false? true = no true≢false
  false? false = yes refl

  pub apart? : (c : Letter) (w : Word Γ) → Dec (Apart Γ c w)
  apart? c [] = yes tt
  apart? c (b ∷ w) = both? (false? (dep Γ c b)) (apart? c w)

  -- a first letter with a property that can be decided, or none
  pub first_search : (P : Letter → Type 0) → ((c : Letter) → Dec (P c)) → (w : Word Γ)
      → Dec ((c : Letter) × First Γ c w × P c)
  first_search P d [] = no (λ (k : (c : Letter) × First Γ c [] × P c). not_first_nil Γ k.1)
  first_search P d (b ∷ w) =
      go (d b) (first_search (λ c. (dep Γ c b ≡ false) × P c) (λ c. both? (false? (dep Γ c b)) (d c)) w)
    where
      go : Dec (P b) → Dec ((c : Letter) × First Γ c w × ((dep Γ c b ≡ false) × P c))
          → Dec ((c : Letter) × First Γ c (b ∷ w) × P c)
      go (yes p) s = yes (b, (w, here), p)
      go (no n) (yes k) = yes (k.0, (b ∷ k.1.0, there k.2.0 k.1.1), k.2.1)
      go (no n) (no m) = no (λ (k : (c : Letter) × First Γ c (b ∷ w) × P c). not_first_cons Γ
          (λ e. n (subst P e k.2)) (λ i f. m (k.0, f, (i, k.2))) k.1)
