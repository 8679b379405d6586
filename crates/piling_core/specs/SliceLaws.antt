-- The ends of a slice of a list.
use Rattle.std.specs.Prelude.{ℕ, suc, ◌+◌, ◌-◌, ◌<◌, ◌≤◌, ◌≡◌, List, [], ◌∷◌, ◌++◌, length, get_or, take, drop}
use Rattle.std.proofs.Common.{sym, ◌∙◌, ap, append_assoc, arith, length-append, length-take-le, take-suc, take-take, take-add, take_at, drop_at, drop-drop, get_or-take, get_or-drop}
use Rattle.std.proofs.Math.Seq.{slice, length-slice}
use Rattle.std.proofs.lemmas.List.{drop-append-le, get_or_at}

pub slice_snoc : (f t : ℕ) (l : List ℕ) → f < t → t ≤ length l
    → slice f t l ≡ slice f (t - 1) l ++ get_or l (t - 1) 0 ∷ []
slice_snoc f t l h k =
    let e : t ≡ suc (t - 1) = omega arith in
    ap (λ (n : ℕ). slice f n l) e
    ∙ ap (drop f) (take-suc l (t - 1) 0 (omega arith))
    ∙ drop-append-le f (take (t - 1) l) (get_or l (t - 1) 0 ∷ []) (omega (arith, length-take-le (t - 1) l (omega arith)))

slice_front : (f t j : ℕ) (l : List ℕ) → f + j ≤ t → t ≤ length l → slice f (f + j) l ≡ take j (slice f t l)
slice_front f t j l h k =
    ap (drop f) (sym (take-take (f + j) t l h) ∙ take-add f j (take t l))
    ∙ drop_at (take f (take t l)) (take j (slice f t l)) f
    (length-take-le f (take t l) (omega (arith, length-take-le t l k)))

module _ (f t : ℕ) (l : List ℕ) (h : f ≤ t) (k : t ≤ length l) where
  -- as many elements off both ends
  pub slice_inner : (n : ℕ) (m p q : List ℕ) → slice f t l ≡ m ++ (p ++ q) → length m ≡ n → length q ≡ n
      → (t ≡ f + (n + length p) + n) × (slice (f + n) (t - n) l ≡ p)
  slice_inner n m p q e i j =
      let v : ℕ = n + length p in
      let r : t ≡ f + v + n
      = omega (arith, ap length e, length-slice f t l k, length-append m (p ++ q), length-append p q) in
      let s : t - n ≡ f + v = omega arith in
      let o : take v (m ++ (p ++ q)) ≡ m ++ p
      = ap (take v) (sym (append_assoc m p q)) ∙ take_at (m ++ p) q v (omega (arith, length-append m p)) in
      let u : slice f (t - n) l ≡ m ++ p
      = ap (λ (w : ℕ). slice f w l) s ∙ slice_front f t v l (omega arith) k ∙ ap (take v) e ∙ o in
      (r, sym (drop-drop n f (take (t - n) l)) ∙ ap (drop n) u ∙ drop_at m p n i)

  -- the first and the last of two or more
  pub slice_ends : (b d : ℕ) (s : List ℕ) → slice f t l ≡ b ∷ (s ++ d ∷ [])
      → (f + 1 < t) × (get_or l f 0 ≡ b) × (get_or l (t - 1) 0 ≡ d)
  slice_ends b d s e =
      let n : t - f ≡ length s + 2
      = omega (arith, ap length e, length-slice f t l k, length-append s (d ∷ [])) in (
        omega arith,
        at 0 f (omega arith) (omega arith),
        at (length s + 1) (t - 1) (omega arith) (omega arith) ∙ get_or_at (b ∷ s) d [] 0 (length s + 1) (omega arith),
      )
    where
      at : (i j : ℕ) → f + i ≡ j → j < t → get_or l j 0 ≡ get_or (b ∷ (s ++ d ∷ [])) i 0
      at i j g o =
          sym (get_or-take t l j 0 o) ∙ ap (λ (v : ℕ). get_or (take t l) v 0) (sym g)
          ∙ sym (get_or-drop f (take t l) i 0) ∙ ap (λ (v : List ℕ). get_or v i 0) e
