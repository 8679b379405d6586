-- `notation_copy::repeat` meets its contract: the first copy stands, and each turn writes more behind those that stand.
use Rattle.std.proofs.Common.{arith}
use Rattle.notation_copy.specs.RepeatLaws.{repeating_nothing, repeating_start, repeating_room, repeating_again}
use Rattle.notation_copy.proofs.repeat.Goals as goal

pub returns-then-from-to : goal.returns-then-from-to
returns-then-from-to c =
    let a = c.args in
    repeating_nothing a.area.now a.from a.to c.requires.in_order (omega (arith, c.requires.room)) c.if-from-to.true a.count

pub loop-n-init : goal.loop-n-init
loop-n-init c =
    let p = c.requires in
    repeating_start c.args.area.now c.args.from c.args.to c.args.count p.in_order p.once p.room

pub copy_within-requires-clause-dest_in_bounds : goal.copy_within-requires-clause-dest_in_bounds
copy_within-requires-clause-dest_in_bounds c =
    let a = c.args in
    let p = c.requires in
    repeating_room a.area.now a.from a.to a.count p.in_order p.once p.room c.loop-n.invariant c.min-more.result
    (omega arith) (omega arith)

pub loop-n-preserved : goal.loop-n-preserved
loop-n-preserved c =
    let a = c.args in
    let p = c.requires in
    rw c.copy_within.ensures.after
    (repeating_again a.area.now a.from a.to a.count p.in_order p.once p.room c.loop-n.invariant c.min-more.result
    (omega arith) (omega arith))
