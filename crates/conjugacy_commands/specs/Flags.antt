-- Flags for 24 commands: which of them stand in a list, and the flagged commands as a list.
use Rattle.std.specs.Prelude.{ℕ, ◌+◌, ◌<◌, ◌≤◌, ◌≡◌, List, [], ◌∷◌, eqb, length, get_or}
use Rattle.theory_words.specs.Filter.{keep_if}
use Rattle.theory_conjugacy.specs.AscendingLaws.{◌∈◌, Ascending}

-- 1 if P holds, 0 if not
pub data Flag (P : Type 0) : ℕ → Type 0 where
  set : P → Flag P 1
  clear : ¬ P → Flag P 0

-- flag k tells whether k + 1 stands in an ascending list of commands
pub record Flags (ks flags : List ℕ) : Type 0 where
  pub many : length flags ≡ 24
  pub ascending : Ascending ks
  pub within : (k : ℕ) → k ∈ ks → (1 ≤ k) × (k ≤ 24)
  pub each : (k : ℕ) → k < 24 → Flag ((k + 1) ∈ ks) (get_or flags k 0)

-- the flagged commands, the first flag being that of command k
unfoldable pub flagged : ℕ → List ℕ → List ℕ
flagged k [] = []
flagged k (f ∷ fs) = keep_if (eqb f 1) k (flagged (k + 1) fs)

-- command j + 1 if it is flagged
abbrev pub flagged_at : List ℕ → ℕ → List ℕ
flagged_at flags j = keep_if (eqb (get_or flags j 0) 1) (j + 1) []
