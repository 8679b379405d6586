-- Laws of Levels: a tight numbering is, at each place, the smallest of all that rise.
use Rattle.std.specs.Prelude.{ℕ, zero, suc, ◌≤◌, ◌<◌}
use Rattle.std.proofs.Common.{arith, inl, inr}
use Rattle.theory_schedules.specs.Levels.{TightAt, Rising, Tight}

module _ (D : ℕ → ℕ → Type 0) (n : ℕ) {f g : ℕ → ℕ} (t : Tight D n f) (r : Rising D n g) where
  least_before : (b j : ℕ) → j < b → j < n → f j ≤ g j
  least_before zero j l h = absurd (omega arith)
  least_before (suc b) j l h = go (least_before b) (t j h)
    where
      go : ((i : ℕ) → i < b → i < n → f i ≤ g i) → TightAt D f j → f j ≤ g j
      go k (inl e) = omega arith
      go k (inr x) =
          let (i, s, d, e) = x in omega (arith, k i (omega arith) (omega arith), r i j s h d)

  pub tight_least : (j : ℕ) → j < n → f j ≤ g j
  tight_least j h = least_before n j h h
