-- `conjugacy_cliques::covers` meets its contract. The loop's invariant: what is gathered is 0 as long as the flags
-- passed are covered. Assumes nothing.
use Rattle.std.proofs.Common.{arith, rules, length-append}
use Rattle.std.proofs.lemmas.Slice.Zip.{zip_turn, zip_end}
use Rattle.conjugacy_cliques.specs.CoveredLaws.{gathered_again, gathered_end}
use Rattle.conjugacy_cliques.proofs.covers.Goals as goal

pub loop-flag-preserved : goal.loop-flag-preserved
loop-flag-preserved c =
    let t = zip_turn c.args.flags.now c.args.line.now _ c.into_iter-flag-iterator.result _ c.next.new.self _
    (search rules) (search rules) c.loop-flag.yielded_by _ c.in-Some.is c.next.ensures.steps in
    gathered_again c.loop-flag.invariant (t.2 0) (t.3 0) (length-append c.loop-flag.yielded _)

pub returns : goal.returns
returns c =
    let e = zip_end c.args.flags.now c.args.line.now _ c.into_iter-flag-iterator.result _ c.next.new.self _
    (search rules) (search rules) c.loop-flag.yielded_by c.in-None.is c.next.ensures.steps in
    gathered_end c.loop-flag.invariant (omega (arith, e, c.told-flags, c.told-line))
