-- Laws of one letter of the reading: the partner that it finds is the undo that can come first among the letters left,
-- so that without the places the letter acts on the word that is left.
use Rattle.std.specs.Prelude.{ℕ, suc, ◌+◌, ◌≡◌, Bool, true, false, length, eqb}
use Rattle.std.proofs.Common.{arith, sym, ◌∙◌, ap, subst, true≢false, eqb-true}
use Rattle.std.proofs.Math.Path.{refl}
use mathlib.Core.List.{List, [], ◌∷◌, ◌++◌}
use Rattle.std.proofs.Math.Option.{Option, none, some}
use Rattle.std.proofs.lemmas.Bool.{eqb-false}
use Rattle.theory_words.specs.All.{All}
use Rattle.theory_words.specs.Trace.{Pick, here, there, First}
use Rattle.theory_words.specs.TraceLaws.{not_first_nil, not_first_cons}
use Rattle.theory_words.specs.GroupLaws.{dep-inv}
use Rattle.theory_words.specs.Reduce.{act}
use Rattle.theory_words.specs.ReduceLaws.{cut, put, act_is}
use Rattle.spec_laws.specs.TableLaws.{some_same, none-some}
use Rattle.spec.specs.Conflict.{conflict}
use Rattle.spec.specs.Byte.{command_of, undone}
use Rattle.spec.specs.Letters.{alphabet}
use Rattle.spec.specs.Answers.{yes_no}
use Rattle.spec.specs.Pairs.{Placed, placed, bytes_of, places_of, Partner, partner_step, partner, left_after, count}

module _ (c : List ℕ) where
  -- b meets its undo at place p of t, behind letters that do not conflict with b, and r is left
  pub data Met (b : ℕ) : List Placed → ℕ → List Placed → Type 0 where
    at : {x : Placed} {t : List Placed} → x.byte ≡ undone b → Met b (x ∷ t) x.place t
    behind : {x : Placed} {t r : List Placed} {p : ℕ} → conflict c (command_of b) (command_of x.byte) ≡ false
        → Met b t p r → Met b (x ∷ t) p (x ∷ r)

  -- what `partner` answers
  pub data Sought (b : ℕ) (t : List Placed) : Option Partner → Type 0 where
    met : {q : Partner} → Met b t q.place q.rest → Sought b t (some q)
    unmet : ¬ First (alphabet c) (undone b) (bytes_of t) → Sought b t none

  sought_step : {b : ℕ} {x : Placed} {t : List Placed} {o : Option Partner} (s k : Bool)
      → eqb x.byte (undone b) ≡ s → conflict c (command_of b) (command_of x.byte) ≡ k → Sought b t o
      → Sought b (x ∷ t) (partner_step s k x t o)
  sought_step {b} {x} true k e d o = met (at (eqb-true x.byte (undone b) e))
  sought_step {b} {x} false true e d o =
      unmet (not_first_cons (alphabet c) (λ f. eqb-false x.byte (undone b) e (sym f))
      (λ f g. true≢false (sym d ∙ sym (dep-inv (alphabet c) b x.byte) ∙ f)))
  sought_step false false e d (met m) = met (behind d m)
  sought_step {b} {x} false false e d (unmet n) =
      unmet (not_first_cons (alphabet c) (λ f. eqb-false x.byte (undone b) e (sym f)) (λ f g. n g))

  pub sought : (b : ℕ) (t : List Placed) → Sought b t (partner c b t)
  unfolding partner
  sought b [] = unmet (not_first_nil (alphabet c))
  sought b (x ∷ t) =
      sought_step (eqb x.byte (undone b)) (conflict c (command_of b) (command_of x.byte)) refl refl (sought b t)

  pub met_pick : {b p : ℕ} {t r : List Placed} → Met b t p r
      → Pick (alphabet c) (undone b) (bytes_of t) (bytes_of r)
  met_pick {b} (at {x = x} {t = t} e) =
      subst (λ a. Pick (alphabet c) (undone b) (a ∷ bytes_of t) (bytes_of t)) (sym e) here
  met_pick {b} (behind {x = x} d m) = there (dep-inv (alphabet c) b x.byte ∙ d) (met_pick m)

  -- an undo that can come first has a place, and it is the partner
  pub first_partner : (b : ℕ) (t : List Placed) → First (alphabet c) (undone b) (bytes_of t)
      → (q : Partner) × (partner c b t ≡ some q) × Met b t q.place q.rest
  first_partner b t f = go (sought b t) refl
    where
      go : {o : Option Partner} → Sought b t o → partner c b t ≡ o
          → (q : Partner) × (partner c b t ≡ some q) × Met b t q.place q.rest
      go (met {q = q} m) e = (q, e, m)
      go (unmet n) e = absurd (n f)

  -- a partner that is found is met
  pub partner_met : (b : ℕ) (t : List Placed) (q : Partner) → partner c b t ≡ some q → Met b t q.place q.rest
  partner_met b t q e = go (sought b t) e
    where
      go : {o : Option Partner} → Sought b t o → o ≡ some q → Met b t q.place q.rest
      go (met {q = p} m) k = subst (λ x. Met b t x.place x.rest) (some_same k) m
      go (unmet n) k = absurd (none-some k)

  pub first_alone : (b : ℕ) (t : List Placed) → ¬ First (alphabet c) (undone b) (bytes_of t) → partner c b t ≡ none
  first_alone b t n = go (sought b t)
    where
      go : {o : Option Partner} → Sought b t o → o ≡ none
      go (met m) = absurd (n (_, met_pick m))
      go (unmet k) = refl

  -- without the places, a letter that is read acts on the word left
  pub left_acts : (b i : ℕ) (t : List Placed)
      → bytes_of (left_after (placed b i) t (partner c b t)) ≡ act (alphabet c) b (bytes_of t)
  left_acts b i t = go (sought b t)
    where
      go : {o : Option Partner} → Sought b t o
          → bytes_of (left_after (placed b i) t o) ≡ act (alphabet c) b (bytes_of t)
      go (met m) = sym (act_is (alphabet c) (cut (met_pick m)))
      go (unmet n) = sym (act_is (alphabet c) (put n))

  -- the letters newer than the one that b meets are free of b
  pub met_split : {b p : ℕ} {t r : List Placed} → Met b t p r
      → (newer : List Placed) × (older : List Placed) × (t ≡ newer ++ placed (undone b) p ∷ older)
      × All (λ x. conflict c (command_of b) (command_of x.byte) ≡ false) newer
  met_split {b} (at {x = x} {t = t} e) = ([], t, ap (λ a. placed a x.place ∷ t) e, tt)
  met_split (behind {x = x} d m) =
      let (newer, older, e, f) = met_split m in
      (x ∷ newer, older, ap (λ y. x ∷ y) e, (d, f))

  -- what holds of every letter left holds of the one met and of the rest
  pub met_all : {b p : ℕ} {t r : List Placed} (P : Placed → Type 0) → Met b t p r → All P t
      → P (placed (undone b) p) × All P r
  met_all P (at {x = x} e) h = (subst (λ a. P (placed a x.place)) e h.0, h.1)
  met_all P (behind d m) h = let (q, k) = met_all P m h.1 in (q, (h.0, k))

  pub met_length : {b p : ℕ} {t r : List Placed} → Met b t p r → length t ≡ suc (length r)
  met_length (at e) = refl
  met_length (behind d m) = ap suc (met_length m)

  pub met_count : {b p : ℕ} {t r : List Placed} → Met b t p r → (i : ℕ)
      → count i (places_of t) ≡ yes_no (eqb p i) + count i (places_of r)
  met_count (at e) i = refl
  met_count (behind {x = x} d m) i = omega (arith, met_count m i)
