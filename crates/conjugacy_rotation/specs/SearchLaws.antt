-- Laws of the search for a rotation: a ring read round from a place on, and the first place that fits.
use Rattle.std.specs.Prelude.{ℕ, ◌-◌, ◌<◌, max, ◌≡◌, refl, List, ◌++◌, length, take, drop}
use Rattle.std.proofs.Common.{arith, sym, ◌∙◌, ap, subst, length-drop, take-append-drop}
use Rattle.std.proofs.Math.Seq.{take-append_seam, drop-append_seam}
use Rattle.std.proofs.Math.Option as Math
use Rattle.std.proofs.Math.Option.{none, some}
use Rattle.spec.specs.Letters.{alphabet}
use Rattle.theory_conjugacy.specs.Rotation.{rotate, rotation, Rotated}
use Rattle.theory_conjugacy.specs.RotationLaws.{rotation-some, rotation-none, rotate_rotated, rotated_length}

-- the ring read round from place i on: what stands before its end, and what stands past it
module _ (r t : List ℕ) (i : ℕ) where
  pub rotate_near : rotate i r ≡ t → drop i r ≡ take (length r - i) t
  rotate_near e =
      sym (take-append_seam (drop i r) (take i r)) ∙ ap (λ (k : ℕ). take k (rotate i r)) (length-drop i r)
      ∙ ap (take (length r - i)) e

  pub rotate_far : rotate i r ≡ t → take i r ≡ drop (length r - i) t
  rotate_far e =
      sym (drop-append_seam (drop i r) (take i r)) ∙ ap (λ (k : ℕ). drop k (rotate i r)) (length-drop i r)
      ∙ ap (drop (length r - i)) e

  pub rotate_both : drop i r ≡ take (length r - i) t → take i r ≡ drop (length r - i) t → rotate i r ≡ t
  rotate_both e f =
      ap (λ (z : List ℕ). z ++ take i r) e ∙ ap (λ (z : List ℕ). take (length r - i) t ++ z) f
      ∙ take-append-drop (length r - i) t

module _ (c r t : List ℕ) where
  pub rotation_at : (i : ℕ) → i < max 1 (length r) → rotate i r ≡ t → ((k : ℕ) → k < i → rotate k r ≡ t → ⊥)
      → some i ≡ rotation (alphabet c) r t
  rotation_at i l e f = go (rotation (alphabet c) r t) refl
    where
      go : (o : Math.Option ℕ) → rotation (alphabet c) r t ≡ o → some i ≡ o
      go none s =
          absurd (rotation-none (alphabet c) r t s (subst (Rotated (alphabet c) r) e (rotate_rotated (alphabet c) i r)))
      go (some k) s =
          let (m, g, h) = rotation-some (alphabet c) r t s in
          let a : ¬ (k < i) = λ d. f k d g in
          let b : ¬ (i < k) = λ d. h i d e in
          ap some (omega arith)

  pub rotation_nowhere : ((k : ℕ) → k < max 1 (length r) → rotate k r ≡ t → ⊥) → none ≡ rotation (alphabet c) r t
  rotation_nowhere f = go (rotation (alphabet c) r t) refl
    where
      go : (o : Math.Option ℕ) → rotation (alphabet c) r t ≡ o → none ≡ o
      go none s = refl
      go (some k) s = let (m, g, h) = rotation-some (alphabet c) r t s in absurd (f k m g)

  -- rings of different lengths
  pub rotation_uneven : ¬ (length t ≡ length r) → none ≡ rotation (alphabet c) r t
  rotation_uneven n = rotation_nowhere λ k l e. n (sym (rotated_length (alphabet c)
      (subst (Rotated (alphabet c) r) e (rotate_rotated (alphabet c) k r))))
