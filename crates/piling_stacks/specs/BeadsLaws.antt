-- A stack of beads in a row of 1,024, and what one letter changes in the rows. No word and no catalogue here.
use Rattle.std.specs.Prelude.{ℕ, suc, ◌+◌, ◌-◌, ◌≤◌, ◌<◌, ◌⊎◌, ◌≡◌, List, [], ◌∷◌, ◌++◌, length, get_or, take, set}
use Rattle.std.proofs.Common.{arith, add-one, eq-or-lt_of_le, add-zero, inl, inr, sym, ◌∙◌, ap, subst, append-nil, length-set, length-append, length-take, get_or-set_same, get_or-set_other, take-suc-set, take-suc, take-take, take_at, get_or-take}
use Rattle.std.proofs.Math.Nat.{sub-zero}
use Rattle.std.proofs.lemmas.List.{set-get_or, take-set-le, get_or_at}
use Rattle.array_counts.specs.MeetsLaws.{Meets, aside, own, other}

-- the stack s, bottom first, stands in the row, and nothing above it
pub record Beads (row : List ℕ) (h : ℕ) (s : List ℕ) : Type 0 where
  pub wide : length row ≡ 1024
  pub stack : take h row ≡ s
  pub height : h ≡ length s
  pub above : (j : ℕ) → h ≤ j → get_or row j 0 ≡ 0

length_snoc : (s : List ℕ) (b : ℕ) → length (s ++ b ∷ []) ≡ length s + 1
length_snoc s b = length-append s (b ∷ [])

pub beads_fit : {row s : List ℕ} {h : ℕ} → Beads row h s → h ≤ 1024
beads_fit {row} {s} {h} r = omega (arith, length-take h row, ap length r.stack, r.height, r.wide)

beads_add : {row s : List ℕ} {h : ℕ} (b : ℕ) → h < 1024 → Beads row h s → Beads (set row h b) (h + 1) (s ++ b ∷ [])
beads_add {row} {s} {h} b l r = record {
  wide = length-set row h b ∙ r.wide;
  stack = rw add-one (take-suc-set row h b (omega (arith, r.wide)) ∙ ap (λ (t : List ℕ). t ++ b ∷ []) r.stack);
  height = omega (arith, length_snoc s b, r.height);
  above = λ j k. get_or-set_other row h j b 0 (λ e. omega arith) ∙ r.above j (omega arith);
}

set_same : (row : List ℕ) (j b : ℕ) → get_or row j 0 ≡ b → set row j b ≡ row
set_same row j b e = ap (set row j) (sym e) ∙ set-get_or row j 0

beads_blank : {row s : List ℕ} {h : ℕ} → h < 1024 → Beads row h s → Beads row (h + 1) (s ++ 0 ∷ [])
beads_blank {row} {s} {h} l r =
    let e : set row h 0 ≡ row = set_same row h 0 (r.above h (omega arith)) in
    subst (λ (t : List ℕ). Beads t (h + 1) (s ++ 0 ∷ [])) e (beads_add 0 l r)

pub beads_top : {row : List ℕ} {h : ℕ} (s : List ℕ) (b : ℕ) → Beads row h (s ++ b ∷ []) → get_or row (h - 1) 0 ≡ b
beads_top {row} {h} s b r =
    sym (get_or-take h row (h - 1) 0 (omega (arith, length_snoc s b, r.height)))
    ∙ ap (λ (t : List ℕ). get_or t (h - 1) 0) r.stack
    ∙ get_or_at s b [] 0 (h - 1) (omega (arith, length_snoc s b, r.height))

beads_off : {row : List ℕ} {h : ℕ} (s : List ℕ) (b : ℕ) → Beads row h (s ++ b ∷ [])
    → Beads (set row (h - 1) 0) (h - 1) s
beads_off {row} {h} s b r = record {
  wide = length-set row (h - 1) 0 ∙ r.wide;
  stack = take-set-le (h - 1) row (h - 1) 0 (omega arith)
      ∙ sym (take-take (h - 1) h row (omega arith))
      ∙ ap (take (h - 1)) r.stack
      ∙ take_at s (b ∷ []) (h - 1) (omega (arith, length_snoc s b, r.height));
  height = omega (arith, length_snoc s b, r.height);
  above = λ j k. go j (eq-or-lt_of_le k);
}
  where
    go : (j : ℕ) → (h - 1 ≡ j) ⊎ (h - 1 < j) → get_or (set row (h - 1) 0) j 0 ≡ 0
    go j (inl e) =
        rw (sym e) (get_or-set_same row (h - 1) 0 0 (omega (arith, beads_fit r, length_snoc s b, r.height, r.wide)))
    go j (inr l) = get_or-set_other row (h - 1) j 0 0 (λ e. omega arith) ∙ r.above j (omega arith)

beads_unblank : {row : List ℕ} {h : ℕ} (s : List ℕ) → Beads row h (s ++ 0 ∷ []) → Beads row (h - 1) s
beads_unblank {row} {h} s r =
    subst (λ (t : List ℕ). Beads t (h - 1) s) (set_same row (h - 1) 0 (beads_top s 0 r)) (beads_off s 0 r)

-- a stack that is not empty ends with its top bead
pub beads_split : {row s : List ℕ} {h : ℕ} → 0 < h → Beads row h s
    → s ≡ take (h - 1) row ++ get_or row (h - 1) 0 ∷ []
beads_split {row} {s} {h} l r =
    let e : take (suc (h - 1)) row ≡ take (h - 1) row ++ get_or row (h - 1) 0 ∷ [] =
    take-suc row (h - 1) 0 (omega (arith, beads_fit r, r.wide)) in
    let f : h ≡ suc (h - 1) = omega arith in
    sym r.stack ∙ ap (λ (n : ℕ). take n row) f ∙ e

-- the rows with bead b written at place h of row k
abbrev pub written : List (List ℕ) → ℕ → ℕ → ℕ → List (List ℕ)
written rows k h b = set rows k (set (get_or rows k []) h b)

module _ (rows : List (List ℕ)) (heights : List ℕ) (k : ℕ) (inside : k < length rows) where
  written_own : (h b : ℕ) → get_or (written rows k h b) k [] ≡ set (get_or rows k []) h b
  written_own h b = get_or-set_same rows k (set (get_or rows k []) h b) [] inside

  written_other : (h b : ℕ) {i : ℕ} → ¬ (i ≡ k) → get_or (written rows k h b) i [] ≡ get_or rows i []
  written_other h b {i} o = get_or-set_other rows k i (set (get_or rows k []) h b) [] o

  pub meets_add : {i n b : ℕ} {s m : List ℕ} → Meets k b i n m → get_or heights i 0 < 1024
      → Beads (get_or rows i []) (get_or heights i 0) s
      → Beads (get_or (written rows k (get_or heights k 0) b) i []) (get_or heights i 0 + n) (s ++ m)
  meets_add {i} {b = b} {s = s} (aside o) l r =
      rw (written_other (get_or heights k 0) b o, append-nil s, add-zero (get_or heights i 0)) r
  meets_add {b = b} own l r = rw (written_own (get_or heights k 0) b) (beads_add b l r)
  meets_add {b = b} (other o) l r = rw (written_other (get_or heights k 0) b o) (beads_blank l r)

  pub meets_off : {i n b : ℕ} {m : List ℕ} (s : List ℕ) → Meets k b i n m
      → Beads (get_or rows i []) (get_or heights i 0) (s ++ m)
      → Beads (get_or (written rows k (get_or heights k 0 - 1) 0) i []) (get_or heights i 0 - n) s
  meets_off {i} s (aside o) r =
      rw (written_other (get_or heights k 0 - 1) 0 o, sub-zero (get_or heights i 0)) (rw (append-nil s) at r)
  meets_off {b = b} s own r = rw (written_own (get_or heights k 0 - 1) 0) (beads_off s b r)
  meets_off s (other o) r = rw (written_other (get_or heights k 0 - 1) 0 o) (beads_unblank s r)
