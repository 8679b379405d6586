-- `call_fault::fault` meets its contract: what the checks before a call find. Assumes nothing.
use Rattle.std.specs.Prelude.{ℕ, ◌≡◌, List, Result, Ok, Err}
use Rattle.std.specs.Result.{result_err}
use Rattle.std.proofs.Common.{sym}
use Rattle.std.proofs.Math.Option.{Option}
use Rattle.spec.specs.Table.{Line, first_line}
use Rattle.spec.specs.declared.Refusal.{Refusal}
use Rattle.spec.specs.Answers.{told_fault}
use Rattle.input_checks.specs.Entry.{Told}
use Rattle.input_checks.specs.EntryLaws.{told_none, told_some}
use Rattle.call_fault.proofs.fault.Goals as goal

fault_told : {c : List ℕ} {ls : List (Option Line)} (r : Result ℕ Refusal) → Told c ls r
    → told_fault (result_err r) ≡ first_line ls
fault_told (Ok n) d = sym (told_none d)
fault_told (Err f) d = sym (told_some d)

pub returns : goal.returns
returns c = rw c.err.ensures.value (fault_told c.three_plans.result c.three_plans.ensures.told)
