-- Laws of rotations: the search finds the first starting place and misses none, and a rotation is a conjugate.
use Prim.Native.Nat.{ℕ, zero, suc, ◌+◌, ◌≤◌, ◌<◌, max}
use Rattle.std.proofs.Math.Decide.{dec_lt}
use native.Mathlib.Omega.{arith}
use Rattle.std.specs.Prelude.{◌≡◌, Bool, [], ◌∷◌, ◌++◌, length, take, drop}
use Rattle.std.proofs.Math.Path.{refl}
use Rattle.std.proofs.Common.{sym, ◌∙◌, subst, append-nil, append_assoc, take-append-drop, length-append}
use Rattle.std.proofs.Math.Bool.{true, false}
use Rattle.std.proofs.Math.Option.{none, some, some-injective, none-ne-some, some-ne-none}
use Rattle.std.proofs.lemmas.List.{take-append-le, drop-append-le}
use Rattle.std.proofs.Math.Seq.{take-length, drop-length}
use Rattle.theory_words.specs.Alike.{agree}
use Rattle.theory_words.specs.AlikeLaws.{agree-true, agree-false}
use Rattle.theory_words.specs.Alphabet.{Alphabet, Word}
use Rattle.theory_words.specs.Group as Group
use Rattle.theory_words.specs.Group.{conj, then}
use Rattle.theory_words.specs.GroupLaws.{≈_of_≡, ≈_after, conj_of}
use Rattle.theory_conjugacy.specs.Rotation.{rotate, search, search_step, rotation}
use Rattle.theory_conjugacy.specs.Rotation.{Rotated, stay, roll}

module _ (Γ : Alphabet) where
  open Γ use {Letter, cmd}

  infix 20 ◌≈◌
  abbrev ◌≈◌ : Word Γ → Word Γ → Type 0
  ◌≈◌ = Group.◌≈◌ Γ

  -- rotated words

  pub rotated_trans : {r s t : Word Γ} → Rotated Γ r s → Rotated Γ s t → Rotated Γ r t
  rotated_trans stay k = k
  rotated_trans (roll h) k = roll (rotated_trans h k)

  pub rotated_halves : (p q : Word Γ) → Rotated Γ (p ++ q) (q ++ p)
  rotated_halves [] q = subst (λ (x : Word Γ). Rotated Γ q x) (sym (append-nil q)) stay
  rotated_halves (b ∷ p) q =
      let e : p ++ (q ++ b ∷ []) ≡ (p ++ q) ++ b ∷ [] = sym (append_assoc p q (b ∷ [])) in
      let f : (q ++ b ∷ []) ++ p ≡ q ++ b ∷ p = append_assoc q (b ∷ []) p in
      let h : Rotated Γ (p ++ (q ++ b ∷ [])) ((q ++ b ∷ []) ++ p) = rotated_halves p (q ++ b ∷ []) in
      let k : Rotated Γ ((p ++ q) ++ b ∷ []) (q ++ b ∷ p) =
      subst (λ (x : Word Γ). Rotated Γ x (q ++ b ∷ p)) e (subst (Rotated Γ (p ++ (q ++ b ∷ []))) f h) in
      roll k

  pub rotate_rotated : (i : ℕ) (r : Word Γ) → Rotated Γ r (rotate i r)
  rotate_rotated i r =
      subst (λ (x : Word Γ). Rotated Γ x (rotate i r)) (take-append-drop i r) (rotated_halves (take i r) (drop i r))

  -- a rotation by one letter more
  rotate_roll : (i : ℕ) (b : Letter) (r : Word Γ) → i ≤ length r → rotate i (r ++ b ∷ []) ≡ rotate (suc i) (b ∷ r)
  rotate_roll i b r h =
      let e : drop i (r ++ b ∷ []) ≡ drop i r ++ b ∷ [] = drop-append-le i r (b ∷ []) h in
      let f : take i (r ++ b ∷ []) ≡ take i r = take-append-le i r (b ∷ []) h in
      rw (e, f) (append_assoc (drop i r) (b ∷ []) (take i r))

  rotate_all : (r : Word Γ) → rotate (length r) r ≡ r
  rotate_all r = rw (take-length r, drop-length r)

  -- a rotation has its starting place
  pub rotated_place : {r t : Word Γ} → Rotated Γ r t → (i : ℕ) × (i < max 1 (length r)) × (rotate i r ≡ t)
  rotated_place {r} stay = (zero, omega arith, append-nil r)
  rotated_place (roll {b = b} {r = r} {t = t} k) =
      let (i, h, e) = rotated_place k in
      let l : i ≤ length r = omega (arith, length-append r (b ∷ [])) in
      go i l (sym (rotate_roll i b r l) ∙ e) (dec_lt i (length r))
    where
      go : (i : ℕ) → i ≤ length r → rotate (suc i) (b ∷ r) ≡ t → Dec (i < length r)
          → (j : ℕ) × (j < max 1 (suc (length r))) × (rotate j (b ∷ r) ≡ t)
      go i l e (yes h) = (suc i, omega arith, e)
      go i l e (no n) =
          let s : i ≡ length r = omega arith in
          let f : rotate (suc (length r)) (b ∷ r) ≡ t = rw s at e in
          (zero, omega arith, append-nil (b ∷ r) ∙ sym (rotate_all (b ∷ r)) ∙ f)

  pub rotated_length : {r t : Word Γ} → Rotated Γ r t → length r ≡ length t
  rotated_length stay = refl
  rotated_length (roll {b = b} {r = r} k) = omega (arith, rotated_length k, length-append r (b ∷ []))

  -- a first half cycled to the end conjugates
  pub cycle_conj : (p q : Word Γ) {w : Word Γ} → w ≈ (p ++ q) → conj Γ p w ≈ (q ++ p)
  cycle_conj p q {w} e = conj_of Γ p w (then (≈_after Γ e p) (≈_of_≡ Γ (append_assoc p q p)))

  -- a rotation is the conjugate by the letters before its starting place
  pub rotate-conj : (i : ℕ) (r : Word Γ) → conj Γ (take i r) r ≈ rotate i r
  rotate-conj i r = cycle_conj (take i r) (drop i r) (≈_of_≡ Γ (sym (take-append-drop i r)))

  -- the search

  -- i is the first place from `from` on, before `end`, at which r is t
  pub record Found (r t : Word Γ) (from end i : ℕ) : Type 0 where
    pub after : from ≤ i
    pub before : i < end
    pub fits : rotate i r ≡ t
    pub first : (j : ℕ) → from ≤ j → j < i → ¬ (rotate j r ≡ t)

  pub search-some : (r t : Word Γ) (n i : ℕ) {k : ℕ} → search Γ r t n i ≡ some k → Found r t i (i + n) k
  unfolding search search_step
  search-some r t zero i {k} e = absurd (none-ne-some k e)
  search-some r t (suc n) i {k} e = go (agree Γ.same (rotate i r) t) refl e (search-some r t n (suc i))
    where
      go : (b : Bool) → agree Γ.same (rotate i r) t ≡ b → search_step Γ b i (search Γ r t n) ≡ some k
          → (search Γ r t n (suc i) ≡ some k → Found r t (suc i) (suc i + n) k) → Found r t i (i + suc n) k
      go true s e ih =
          let f : i ≡ k = some-injective i k e in
          let x : rotate i r ≡ t = agree-true Γ.same (rotate i r) t s in
          record {
            after = omega arith;
            before = omega arith;
            fits = rw (← f) x;
            first = λ j h l. absurd (omega arith);
          }
      go false s e ih =
          let o = ih e in
          record {
            after = omega (arith, o.after);
            before = omega (arith, o.before);
            fits = o.fits;
            first = early o;
          }
        where
          early : Found r t (suc i) (suc i + n) k → (j : ℕ) → i ≤ j → j < k → ¬ (rotate j r ≡ t)
          early o j h l = pass (dec_lt i j)
            where
              pass : Dec (i < j) → ¬ (rotate j r ≡ t)
              pass (yes g) = o.first j g l
              pass (no g) = let f : i ≡ j = omega arith in rw (← f) (agree-false Γ.same (rotate i r) t s)

  pub search-none : (r t : Word Γ) (n i : ℕ) → search Γ r t n i ≡ none
      → (j : ℕ) → i ≤ j → j < i + n → ¬ (rotate j r ≡ t)
  unfolding search search_step
  search-none r t zero i e j h k = absurd (omega arith)
  search-none r t (suc n) i e j h k =
      go (agree Γ.same (rotate i r) t) refl e (search-none r t n (suc i)) (dec_lt i j)
    where
      go : (b : Bool) → agree Γ.same (rotate i r) t ≡ b → search_step Γ b i (search Γ r t n) ≡ none
          → (search Γ r t n (suc i) ≡ none → (j : ℕ) → suc i ≤ j → j < suc i + n → ¬ (rotate j r ≡ t))
          → Dec (i < j) → ¬ (rotate j r ≡ t)
      go true s e ih d = absurd (some-ne-none i e)
      go false s e ih (yes g) = ih e j g (omega arith)
      go false s e ih (no g) = let f : i ≡ j = omega arith in rw (← f) (agree-false Γ.same (rotate i r) t s)

  -- the place found is the first at which r is t
  pub rotation-some : (r t : Word Γ) {i : ℕ} → rotation Γ r t ≡ some i
      → (i < max 1 (length r)) × (rotate i r ≡ t) × ((j : ℕ) → j < i → ¬ (rotate j r ≡ t))
  unfolding rotation
  rotation-some r t e =
      let o = search-some r t (max 1 (length r)) 0 e in
      (omega (arith, o.before), o.fits, λ j l. o.first j (omega arith) l)

  pub rotation_rotated : (r t : Word Γ) {i : ℕ} → rotation Γ r t ≡ some i → Rotated Γ r t
  rotation_rotated r t {i} e = subst (Rotated Γ r) (rotation-some r t e).1 (rotate_rotated i r)

  pub rotation-conj : (r t : Word Γ) {i : ℕ} → rotation Γ r t ≡ some i → conj Γ (take i r) r ≈ t
  rotation-conj r t {i} e =
      subst (λ (x : Word Γ). conj Γ (take i r) r ≈ x) (rotation-some r t e).1 (rotate-conj i r)

  pub rotation-none : (r t : Word Γ) → rotation Γ r t ≡ none → ¬ Rotated Γ r t
  unfolding rotation
  rotation-none r t e k =
      let (i, h, f) = rotated_place k in
      search-none r t (max 1 (length r)) 0 e i (omega arith) (omega arith) f
