-- The line of a command in the table of conflicts.
use Rattle.std.specs.Prelude.{ℕ, ◌+◌, ◌-◌, ◌<◌, ◌≤◌, ◌≡◌, List, [], get_or}
use Rattle.std.proofs.Common.{arith, ◌∙◌, ap}
use Rattle.spec.specs.Conflict.{conflict}
use Rattle.spec.specs.Answers.{yes_no}
use Rattle.input_chains.specs.Conflicts.{Conflicts}

pub line_tells : {c : List ℕ} {rows : List (List ℕ)} → Conflicts c rows → (k : ℕ) → 1 ≤ k → k ≤ 24
    → (j : ℕ) → j < 24 → get_or (get_or rows (k - 1) []) j 0 ≡ yes_no (conflict c k (j + 1))
line_tells {c} table k low high j l =
    let e : k - 1 + 1 ≡ k = omega arith in
    table.tells (k - 1) j (omega arith) l ∙ ap (λ (i : ℕ). yes_no (conflict c i (j + 1))) e
