-- How deep brackets nest, counted along a text: line 14 of the table is exact.
use Rattle.std.specs.Prelude.{ℕ, suc, ◌+◌, ◌≤◌, ◌<◌, max, ◌≡◌, refl, Bool, true, false, List, [], ◌∷◌, ◌↔◌, leb}
use Rattle.std.proofs.Common.{sym, ◌∙◌, ap, arith, leb-true, leb-false}
use Rattle.std.proofs.Math.Option.{none, some}
use Rattle.spec.specs.Table.{line_at}
use Rattle.spec_laws.specs.TableLaws.{none-some}
use Rattle.spec.specs.Notation.{Token, opening, closing}
use Rattle.spec.specs.Notation.{Items, tokens, Text, nesting_of, first_deep}
use Rattle.spec.specs.Notation.{Digits, last, more, Kind}
use Rattle.spec.specs.Notation.{Reads, nothing, space, plain, signed, number, once, times, ends, gap}
use Rattle.spec.specs.WriteOut.{nesting_line}

-- From s to r, with d brackets open at both, brackets nest n deep: either none is too deep, or the first one is found
data Walk (d i : ℕ) (s r : List Token) (n : ℕ) : Type 0 where
  clear : n + d ≤ 8 → (j : ℕ) → first_deep d i s ≡ first_deep d j r → Walk d i s r n
  found : 8 < n + d → (j : ℕ) → first_deep d i s ≡ some j → Walk d i s r n

digits_walk : {high v n : ℕ} {s r : List Token} → Digits high v s r n → (d i : ℕ)
    → (j : ℕ) × (first_deep d i s ≡ first_deep d j r)
unfolding first_deep
digits_walk (last h) d i = (i, refl)
digits_walk (more l p) d i = digits_walk p d (suc i)

-- where nothing before m is too deep
walk_from : {d i j n : ℕ} {s m r : List Token} → first_deep d i s ≡ first_deep d j m → Walk d j m r n → Walk d i s r n
walk_from e (clear h k f) = clear h k (e ∙ f)
walk_from e (found h k f) = found h k (e ∙ f)

-- a group, and what stands behind its closing bracket
group_walk : {d i n k : ℕ} {s m r : List Token} → d ≤ 8 → (d < 8 → Walk (suc d) (suc i) s (closing ∷ m) n)
    → ((j : ℕ) → Walk d j m r k) → Walk d i (opening ∷ s) r (max (suc n) k)
unfolding first_deep
group_walk {d} {i} {n} {k} {s} {m} {r} h inner outer = go (leb 8 d) refl
  where
    behind : first_deep d i (opening ∷ s) ≡ first_deep (suc d) (suc i) s → Walk (suc d) (suc i) s (closing ∷ m) n
        → Walk d i (opening ∷ s) r (max (suc n) k)
    behind e (found h j f) = found (omega arith) j (e ∙ f)
    behind e (clear h j f) = then (outer (suc j))
      where
        then : Walk d (suc j) m r k → Walk d i (opening ∷ s) r (max (suc n) k)
        then (clear h' l g) = clear (omega arith) l (e ∙ f ∙ g)
        then (found h' l g) = found (omega arith) l (e ∙ f ∙ g)

    go : (t : Bool) → leb 8 d ≡ t → Walk d i (opening ∷ s) r (max (suc n) k)
    go true t = found (omega (arith, leb-true 8 d t)) i (rw t)
    go false t = behind (rw t) (inner (omega (arith, leb-false 8 d t)))

walk : {k : Kind} {s r : List Token} {t : Items} → Reads k s r t → (d i : ℕ) → d ≤ 8 → Walk d i s r (nesting_of t)
unfolding nesting_of first_deep
walk nothing d i h = clear (omega arith) i refl
walk (space p) d i h = walk_from refl (walk p d (suc i) h)
walk (plain p) d i h = walk p d i h
walk (signed p) d i h = walk_from refl (walk p d (suc i) h)
walk (number l p a) d i h = let (j, e) = digits_walk p d (suc i) in walk_from e (walk a d j h)
walk (once g a) d i h = group_walk h (λ l. walk g (suc d) (suc i) l) (λ j. walk a d j h)
walk (times g p a) d i h =
    group_walk h (λ l. walk g (suc d) (suc i) l) (λ j.
    let (l, e) = digits_walk p d (suc j) in walk_from e (walk a d l h))
walk ends d i h = clear (omega arith) i refl
walk (gap p) d i h = walk_from refl (walk p d (suc i) h)

pub nesting_exact : (s : List ℕ) (t : Items) → Text s t → (nesting_line s ≡ none) ↔ (nesting_of t ≤ 8)
unfolding first_deep
nesting_exact s t p = go (walk p 0 0 (omega arith))
  where
    go : Walk 0 0 (tokens s) [] (nesting_of t)
        → (line_at 14 1 (λ i. i) (first_deep 0 0 (tokens s)) ≡ none) ↔ (nesting_of t ≤ 8)
    go (clear h j e) = (λ n. omega arith, λ n. rw e)
    go (found h j e) = (λ n. absurd (none-some (sym n ∙ ap (line_at 14 1 (λ i. i)) e)), λ n. absurd (omega arith))

pub shallow : (s : List ℕ) (t : Items) → Text s t → nesting_line s ≡ none → nesting_of t ≤ 8
shallow s t p = (nesting_exact s t p).0
