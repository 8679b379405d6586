-- Whether the ends of a row are a pair, as the code tells it.
use Rattle.std.specs.Prelude.{ℕ, ◌+◌, ◌-◌, ◌<◌, true, false, ◌≡◌, List, ◌↔◌, eqb, get_or}
use Rattle.std.proofs.lemmas.Bool.{false≢true}
use Rattle.std.proofs.Common.{sym, ◌∙◌, eqb-true, eq-eqb}
use Rattle.spec.specs.Byte.{undone}
use Rattle.piling_core.specs.Peeling.{Ends}

-- where the lowest of two or more beads is a letter, the highest decides
pub ends_tell : {row : List ℕ} {height at v : ℕ} → at + 1 < height → (get_or row at 0 ≡ 0 → ⊥)
    → v ≡ undone (get_or row at 0) → ((eqb (get_or row (height - 1) 0) v ≡ true) ↔ Ends row height at)
ends_tell {row} {height} {at} {v} h n e = (
  λ t. record { two = h; letter = n; undo = eqb-true (get_or row (height - 1) 0) v t ∙ e },
  λ o. eq-eqb (get_or row (height - 1) 0) v (o.undo ∙ sym e),
)

pub ends_not : {row : List ℕ} {height at : ℕ} → (Ends row height at → ⊥) → ((false ≡ true) ↔ Ends row height at)
ends_not n = (λ e. absurd (false≢true e), λ o. absurd (n o))
