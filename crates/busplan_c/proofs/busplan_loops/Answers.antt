-- `busplan_loops` meets its contract: a lead-in is short enough that its length plus 1 fits.
use Rattle.std.specs.Prelude.{ℕ, ◌+◌, ◌<◌, ◌^◌, List, Result, Ok, Err, Option, Some, None, IfOk, IfSome}
use Rattle.std.proofs.Common.{arith, refl}
use Rattle.spec.specs.declared.Refusal.{Refusal}
use Rattle.spec.specs.declared.Loops.{Loops}
use Rattle.spec.specs.Table.{given}
use Rattle.spec.specs.Answers.{told_loops, told_option}
use Rattle.spec.specs.Loops.{Looped}
use Rattle.spec_laws.specs.CodeLaws.{looped_length}
use Rattle.busplan_c.proofs.busplan_loops.Goals as goal

module _ {c v w area after : List ℕ} where
  lead_in_fits : (o : Option ℕ) (n : ℕ)
      → Looped c v w area (given (record { lead_in = told_option o; rounds = n })) after
      → IfSome o (λ l. l + 1 < 2 ^ 63)
  lead_in_fits None n h = tt
  lead_in_fits (Some l) n h = omega (arith, looped_length l h refl)

  loops_fit : (r : Result Loops Refusal) → Looped c v w area (told_loops r) after
      → IfOk r (λ d. IfSome d.lead_in (λ l. l + 1 < 2 ^ 63))
  loops_fit (Ok d) h = lead_in_fits d.lead_in d.rounds h
  loops_fit (Err e) h = tt

pub loops_code-requires : goal.loops_code-requires
loops_code-requires c = loops_fit c.loops.result c.loops.ensures
