-- `piling_left::trim_front` meets its contract. The loop's invariant: the first i bytes are trimmed.
use native.Mathlib.Omega.{arith}
use Rattle.std.proofs.lemmas.List.{set-get_or}
use Rattle.piling_left.specs.TrimmedLaws.{fronts_rest, fronts_kept, fronts_cut, fronts_end}
use Rattle.piling_left.proofs.trim_front.Goals as goal
use Rattle.piling_left.proofs.trim_front.Goals.{then-left-k-ne0, else-left-k-ne0}

pub returns-then-more-eq0 : goal.returns-then-more-eq0
returns-then-more-eq0 c = rw set-get_or (fronts_rest c.loop-byte.invariant c.if-more-eq0.true)

pub loop-byte-preserved : goal.loop-byte-preserved
loop-byte-preserved c =
    let t = c.loop-byte.invariant in
    elim c.if-left-k-ne0.branch [
      | then-left-k-ne0 w ↦ rw (w.word-is, w.left-is, w.more-is) (fronts_cut t (omega arith) w.if-left-k-ne0.true)
      | else-left-k-ne0 w ↦
          rw (w.word-is, w.left-is, w.more-is) (simp set-get_or (fronts_kept t (omega arith) w.if-left-k-ne0.false))
    ]

pub returns : goal.returns
returns c = fronts_end c.loop-byte.invariant (omega arith)
