-- Laws of the chains of places: a letter put on is the newest of its command, and when the newest is taken off the next
-- one is.
use Rattle.std.specs.Prelude.{ℕ, ◌+◌, ◌<◌, ◌≡◌, refl, List, [], ◌∷◌, get_or, set}
use Rattle.std.proofs.Common.{arith, sym, ◌∙◌, subst, length-set, get_or-set_same, get_or-set_other}
use Rattle.std.proofs.Math.Decide.{ℕ_discrete}
use Rattle.theory_words.specs.All.{All}
use Rattle.spec.specs.Byte.{command_of}
use Rattle.spec.specs.Pairs.{Placed, placed}
use Rattle.spec_laws.specs.PartnerLaws.{Met}
use Rattle.piling_stacks.specs.Newest.{of_command, Newest}
use Rattle.piling_stacks.specs.NewestLaws.{of_own, of_other, of_all, met_newest, met_others}
use Rattle.piling_pairs.specs.Places.{Chain, Kept}

-- a chain of places below i is as it was when something is written at i
chain_set : (below : List ℕ) (n i v : ℕ) (ps : List ℕ) → All (λ p. p < i) ps → Chain below n ps
    → Chain (set below i v) n ps
chain_set below n i v [] h k = tt
chain_set below n i v (p ∷ ps) h (e, l, k) = (
  e,
  l,
  rw (get_or-set_other below i p v 0 (λ f. omega (arith, h.0)))
      (chain_set below (get_or below p 0) i v ps h.1 k),
)

module _ {newest below : List ℕ} {t : List Placed} (s : Kept newest below t) {k : ℕ} (h : k < 24) where
  -- a letter of command k + 1 at place i is put on
  pub kept_cover : (b i : ℕ) → command_of b ≡ k + 1 → i < 1024 → All (λ x. x.place < i) t
      → Kept (set newest k i) (set below i (get_or newest k 0)) (placed b i ∷ t)
  kept_cover b i e l f = record {
    many = length-set newest k i ∙ s.many;
    wide = length-set below i (get_or newest k 0) ∙ s.wide;
    chain = λ j m. go j m (ℕ_discrete j k);
  }
    where
      same : (j : ℕ) → j < 24 → Chain (set below i (get_or newest k 0)) (get_or newest j 0) (of_command (j + 1) t)
      same j m =
          chain_set below (get_or newest j 0) i (get_or newest k 0) (of_command (j + 1) t)
          (of_all (λ p. p < i) (j + 1) t f) (s.chain j m)

      go : (j : ℕ) → j < 24 → Dec (j ≡ k)
          → Chain (set below i (get_or newest k 0)) (get_or (set newest k i) j 0) (of_command (j + 1) (placed b i ∷ t))
      go j m (yes z) =
          rw (
            z,
            of_own (k + 1) (placed b i) t e,
            get_or-set_same newest k i 0 (omega (arith, s.many)),
            get_or-set_same below i (get_or newest k 0) 0 (omega (arith, s.wide)),
          )
          (refl, l, same k h)
      go j m (no n) =
          rw (
            of_other (j + 1) (placed b i) t (λ z. n (omega (arith, e, z))),
            get_or-set_other newest k j i 0 n,
          )
          (same j m)

  -- the newest letter of command k + 1, and the next below
  pub kept_newest : (p : ℕ) → Newest (k + 1) p t → (get_or newest k 0 ≡ p) × (p < 1024)
  kept_newest p (ps, e) = let q = subst (Chain below (get_or newest k 0)) e (s.chain k h) in (q.0, q.1)

  pub kept_uncover : (c : List ℕ) (b : ℕ) {p : ℕ} {r : List Placed} → command_of b ≡ k + 1 → Met c b t p r
      → Kept (set newest k (get_or below (get_or newest k 0) 0)) below r
  kept_uncover c b {p} {r} e m = record {
    many = length-set newest k (get_or below (get_or newest k 0) 0) ∙ s.many;
    wide = s.wide;
    chain = λ j l. go j l (ℕ_discrete j k);
  }
    where
      own : Chain below (get_or newest k 0) (p ∷ of_command (k + 1) r)
      own =
          subst (λ i. Chain below (get_or newest k 0) (p ∷ of_command i r)) e
          (subst (Chain below (get_or newest k 0)) (met_newest c m)
          (subst (λ i. Chain below (get_or newest k 0) (of_command i t)) (sym e) (s.chain k h)))

      go : (j : ℕ) → j < 24 → Dec (j ≡ k)
          → Chain below (get_or (set newest k (get_or below (get_or newest k 0) 0)) j 0) (of_command (j + 1) r)
      go j l (yes z) =
          rw (z, get_or-set_same newest k (get_or below (get_or newest k 0) 0) 0 (omega (arith, s.many)), own.0) own.2
      go j l (no n) =
          rw (
            get_or-set_other newest k j (get_or below (get_or newest k 0) 0) 0 n,
            ← met_others c m (j + 1) (λ z. n (omega (arith, e, z))),
          )
          (s.chain j l)
