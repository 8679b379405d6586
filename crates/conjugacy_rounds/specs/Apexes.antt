-- The apexes of a core, from the flags and labels of its commands.
use Rattle.std.specs.Prelude.{ℕ, zero, suc, ◌+◌, ◌-◌, ◌<◌, ◌≤◌, ◌≡◌, ◌&&◌, List, [], ◌∷◌, ◌++◌, Option, None, Some, get_or, eqb}
use Rattle.theory_words.specs.Filter.{keep_if}

-- command k + 1 is flagged and its own label
pub record Apex (fs labels : List ℕ) (k : ℕ) : Type 0 where
  pub flagged : get_or fs k 0 ≡ 1
  pub own : get_or labels k 0 ≡ k + 1

-- command k + 1, if it is an apex
unfoldable pub apex_at : List ℕ → List ℕ → ℕ → List ℕ
apex_at fs labels k = keep_if (eqb (get_or fs k 0) 1 && eqb (get_or labels k 0) (k + 1)) (k + 1) []

-- the apexes among n commands from k + 1 on
unfoldable pub apexes_from : List ℕ → List ℕ → ℕ → ℕ → List ℕ
apexes_from fs labels zero k = []
apexes_from fs labels (suc n) k = apex_at fs labels k ++ apexes_from fs labels n (k + 1)

-- the next command from k + 1 on that is an apex is r + 1, or there is none and r is 24
pub record NextApex (fs labels : List ℕ) (k r : ℕ) : Type 0 where
  pub within : r ≤ 24
  pub apex : r < 24 → Apex fs labels r
  pub rest : apexes_from fs labels (24 - k) k ≡ apexes_from fs labels (24 - r) r

-- command r + 1 is the only apex, or r is 24
pub record LoneApex (fs labels : List ℕ) (r : ℕ) : Type 0 where
  pub apex : r < 24 → Apex fs labels r
  pub only : r < 24 → apexes_from fs labels 24 0 ≡ (r + 1) ∷ []

-- what a search for the next apex gives: its place, or None where there is none
abbrev pub NextFound : List ℕ → List ℕ → ℕ → Option ℕ → Type 0
NextFound fs labels k None = NextApex fs labels k 24
NextFound fs labels k (Some r) = (r < 24) × NextApex fs labels k r

-- what a search for the only apex gives: its place, or None
abbrev pub LoneFound : List ℕ → List ℕ → Option ℕ → Type 0
LoneFound fs labels None = LoneApex fs labels 24
LoneFound fs labels (Some r) = (r < 24) × LoneApex fs labels r
