-- The steps by which labels are merged: what one relabelling makes of 24 labels, and a line of conflicts.
use Rattle.std.specs.Prelude.{ℕ, ◌+◌, ◌<◌, ◌≡◌, List, length, get_or, eqb}
use Rattle.spec.specs.Answers.{yes_no}
use Rattle.spec.specs.Conflict.{conflict}
use Rattle.theory_conjugacy.specs.Part.{relabel_step}

-- every label that is low has become high
pub record Relabelled (low high : ℕ) (before after : List ℕ) : Type 0 where
  pub kept : length after ≡ length before
  pub each : (k : ℕ) → k < 24 → get_or after k 0 ≡ relabel_step (eqb (get_or before k 0) low) high (get_or before k 0)

-- the line tells by 1 or 0 which commands conflict with command i + 1
abbrev pub LineOf : List ℕ → ℕ → List ℕ → Type 0
LineOf c i line = (j : ℕ) → j < 24 → get_or line j 0 ≡ yes_no (conflict c (i + 1) (j + 1))
