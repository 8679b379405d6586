-- `mark_like` marks the members of a row one by one. The loop's invariant: those from j on are still to be marked.
use Rattle.std.proofs.Common.{◌≡◌, ◌+◌, ◌-◌, get_or, [], arith, ◌∙◌}
use Rattle.input_chains.specs.Marking.{marked_if}
use Rattle.input_chains.specs.MembersLaws.{marked_yes, marked_no, marking_again, marking_end}
use Rattle.input_chains.proofs.mark_like.Goals as goal
use Rattle.input_chains.proofs.mark_like.Goals.{then-flag-ne0, else-flag-ne0}

pub loop-j-preserved : goal.loop-j-preserved
loop-j-preserved c =
    let a = c.args in
    let line = get_or a.own.now (a.b - 1) [] in
    let marked : c.if-flag-ne0.rows ≡ marked_if (get_or line c.loop-j.j 0) c.loop-j.rows a.a (c.loop-j.j + 1) =
    elim c.if-flag-ne0.branch [
      | then-flag-ne0 w ↦ w.rows-is ∙ w.mark.ensures ∙ marked_yes _ c.loop-j.rows a.a _ w.if-flag-ne0.true
      | else-flag-ne0 w ↦ w.rows-is ∙ marked_no _ c.loop-j.rows a.a _ w.if-flag-ne0.false
    ] in
    marking_again a.a c.requires.marked line (c.requires.own_shape.wide (a.b - 1) (omega arith)) c.loop-j.invariant
    (omega arith) marked

pub returns : goal.returns
returns c =
    let a = c.args in
    marking_end a.a c.requires.marked (get_or a.own.now (a.b - 1) [])
    (c.requires.own_shape.wide (a.b - 1) (omega arith)) c.loop-j.invariant (omega arith)
