-- `read` goes through the checks in the table's order; where all pass, the marks with the diagonal are the conflicts.
use Rattle.std.proofs.Common.{ℕ, List, Ok, Err, sym, subst}
use Rattle.std.proofs.lemmas.Result.{err_from_is_err_and}
use Rattle.input_chains.specs.Conflicts.{Conflicts}
use Rattle.input_conflicts.specs.Reading.{Reading}
use Rattle.input_conflicts.specs.ReadingLaws.{sound_passed, all_refused, all_passed}
use Rattle.input_conflicts.specs.ChainLaws.{met_conflicts}
use Rattle.input_conflicts.proofs.read.Goals as goal

pub chains-requires-clause-sound : goal.chains-requires-clause-sound
chains-requires-clause-sound c = sound_passed c.of-c.result.bytes.now c.in_ok-check.ensures

pub returns-in_err-commands : goal.returns-in_err-commands
returns-in_err-commands c =
    let p = err_from_is_err_and c.from_residual-in_err-commands.result c.from_residual-in_err-commands.ensures.1 in
    rw (p.1, p.2)
    (subst (λ (x : List ℕ). Reading x c.chains.new.rows (Err c.in_err-commands.field-0.0)) c.of-c.ensures
    (all_refused c.of-c.result.bytes.now c.in_ok-check.ensures c.in_ok-chains.ensures.decides c.in_err-commands.ensures))

pub returns : goal.returns
returns c =
    let cat = c.of-c.result.bytes.now in
    subst (λ (x : List ℕ). Reading x c.diagonal.new.rows (Ok c.in_ok-commands.commands)) c.of-c.ensures
    (all_passed cat c.in_ok-check.ensures c.in_ok-chains.ensures.decides c.in_ok-commands.ensures
    (λ z. subst (Conflicts cat) (sym c.diagonal.ensures) (met_conflicts cat (c.in_ok-chains.ensures.met z))))
