-- The goal of `array_row::same_bytes` that the check leaves.
use Rattle.std.proofs.Common.{rules, [], ◌∷◌, length-append}
use Rattle.std.proofs.lemmas.Slice.Zip.{zip_turn}
use Rattle.array_row.specs.CompareLaws.{compared_again}
use Rattle.array_row.proofs.same_bytes.Goals as goal

pub loop-x-preserved : goal.loop-x-preserved
loop-x-preserved c =
    let xs = c.loop-x.yielded in
    let (l, m, x, y) =
    zip_turn c.args.a.now c.args.b.now xs c.into_iter-x-iterator.result c.loop-x.x-iterator c.next.new.self _
    (search rules) (search rules) c.loop-x.yielded_by (c.in-Some.x, c.in-Some.y) c.in-Some.is c.next.ensures.steps in
    rw (length-append xs ((c.in-Some.x, c.in-Some.y) ∷ []), x 0, y 0) (compared_again c.loop-x.invariant l m)
