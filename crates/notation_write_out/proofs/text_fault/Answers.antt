-- `notation_write_out::text_fault` meets its contract: what the checks of a text find.
use Rattle.std.specs.Prelude.{ℕ, ◌≡◌, Result, Ok, Err}
use Rattle.std.specs.Result.{result_err}
use Rattle.std.proofs.Common.{sym, ap, ◌∙◌}
use Rattle.std.proofs.Math.Option.{Option}
use Rattle.spec.specs.Table.{Line, or_else}
use Rattle.spec.specs.declared.Refusal.{Refusal}
use Rattle.spec.specs.Answers.{told_fault}
use Rattle.spec_laws.specs.SearchLaws.{passed_line, refused_line}
use Rattle.input_catalogue.specs.Checked.{told_checked}
use Rattle.notation_write_out.proofs.text_fault.Goals as goal

fault_told : (o : Option Line) (n : ℕ) (r : Result ℕ Refusal) → told_checked r ≡ or_else o n
    → told_fault (result_err r) ≡ o
fault_told o n (Ok m) t = sym (passed_line o n t)
fault_told o n (Err f) t = sym (refused_line o n t)

pub returns : goal.returns
returns c = ap told_fault c.err.ensures.value ∙ fault_told _ _ c.checked.result c.checked.ensures
