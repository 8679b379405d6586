-- The comparison of two plans goes through its checks, and has no area.
use Rattle.std.specs.Prelude.{ℕ, ◌≡◌, Bool, true, List, ◌↔◌, Ok}
use Rattle.std.proofs.Common.{ap}
use Rattle.spec.specs.Table.{given}
use Rattle.spec.specs.Letters.{normal_form}
use Rattle.input_checks.specs.Entry.{TwoPlans}
use Rattle.input_checks.specs.EntryLaws.{told_none}
use Rattle.spec.specs.Calls.{equal_answer}
use Rattle.spec_laws.specs.CallLaws.{exact_alike}

-- the checks passed, and the plans were compared with the result b
pub equal_told : {c v w : List ℕ} {rows : List (List ℕ)} {n : ℕ} {b : Bool} → TwoPlans c v w rows (Ok n)
    → (b ≡ true) ↔ (normal_form c v ≡ normal_form c w) → given b ≡ equal_answer c v w
equal_told {c} {v} {w} {b = b} d k =
    rw (told_none d.told) (ap given (exact_alike b (normal_form c v) (normal_form c w) k))
