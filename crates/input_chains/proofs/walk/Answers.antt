-- `walk` follows one chain. The loop's invariant: what is still to come of the chain, marked onto the rows and noted as
-- they are, gives what the whole chain gives.
use Rattle.std.proofs.Common.{arith, sym, ◌∙◌, ap, inl, inr, eq-eqb}
use Rattle.input_chains.specs.Marking.{pair, note}
use Rattle.input_chains.specs.WalkLaws.{walk_again, walk_over}
use Rattle.input_chains.proofs.walk.Goals as goal

pub loop-preserved : goal.loop-preserved
loop-preserved c =
    let a = c.args in
    let e = c.command_of.ensures.command in
    rw c.next_of-at.ensures.next
    (walk_again a.c.now.bytes.now c.requires.sound a.a c.requires.in_range c.loop.invariant
    (omega (arith, c.args.c.now.laid.records)) (omega arith) (c.meet.ensures.rows_after ∙ ap (pair c.loop.rows a.a) e)
    (c.meet.ensures.own_after ∙ ap (note c.loop.own a.a) e))

pub returns-then-at-eq0 : goal.returns-then-at-eq0
returns-then-at-eq0 c =
    let w = walk_over c.args.c.now.bytes.now c.requires.sound c.args.a c.requires.in_range c.loop.invariant (inl c.if-at-eq0.true) in
    record { value = sym (eq-eqb _ 0 c.if-at-eq0.true) ∙ w.0; rows_after = w.1; own_after = w.2 }

pub returns : goal.returns
returns c =
    let w = walk_over c.args.c.now.bytes.now c.requires.sound c.args.a c.requires.in_range c.loop.invariant
    (inr (omega (arith, c.args.c.now.laid.records))) in
    record { value = w.0; rows_after = w.1; own_after = w.2 }
