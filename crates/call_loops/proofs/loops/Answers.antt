-- `call_loops::loops` meets its contract: a line refuses, or the verdict is told. Assumes nothing.
use Rattle.std.proofs.Common.{sym, subst}
use Rattle.std.proofs.lemmas.Result.{err_from_is_err_and}
use Rattle.spec.specs.Loops.{Looped}
use Rattle.call_loops.specs.LoopingLaws.{loops-refused, loops_fits, loops_plans, loops_room, loops_small, loops_told}
use Rattle.call_loops.proofs.loops.Goals as goal

pub returns-in_err-commands : goal.returns-in_err-commands
returns-in_err-commands c =
    let p = err_from_is_err_and c.from_residual.result c.from_residual.ensures.1 in
    rw (p.1, p.2) (loops-refused c.args.area.now c.in_err-commands.ensures)

pub returns-then-area-commands : goal.returns-then-area-commands
returns-then-area-commands c =
    loops_small c.args.area.now c.in_ok-commands.ensures c.if-area-commands.true c.small_area.ensures

pub returns : goal.returns
returns c =
    let s = c.args in
    let d = c.in_ok-commands.ensures in
    let a = s.area.now in
    let room = loops_room a d c.if-area-commands.false in
    subst (λ t. Looped s.catalogue.now s.v.now s.w.now a t c.join_plans.new.area) (sym c.verdict.ensures)
    (loops_told a d c.if-area-commands.false (c.join_plans.ensures s.catalogue.now (loops_plans a d) room))
