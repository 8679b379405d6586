-- `piling_left::close_up` meets its contract. The loop's invariant: the letters of the first i bytes stand in front.
use native.Mathlib.Omega.{arith}
use Rattle.piling_left.specs.CloseLaws.{closing_start, closing_filler, closing_letter, closing_end}
use Rattle.piling_left.proofs.close_up.Goals as goal
use Rattle.piling_left.proofs.close_up.Goals.{then-a-ne0, else-a-ne0}

pub loop-i-init : goal.loop-i-init
loop-i-init c = closing_start c.args.word.now

pub loop-i-preserved : goal.loop-i-preserved
loop-i-preserved c =
    let t = c.loop-i.invariant in
    elim c.if-a-ne0.branch [
      | then-a-ne0 w ↦ rw w.n-is (closing_letter t (omega arith) w.if-a-ne0.true)
      | else-a-ne0 w ↦ rw w.n-is (closing_filler t (omega arith) w.if-a-ne0.false)
    ]

pub returns : goal.returns
returns c = closing_end c.loop-i.invariant (omega arith)
