-- `piling_left::trim_back` meets its contract. The loop's invariant: the bytes from i on are trimmed.
use native.Mathlib.Omega.{arith}
use Rattle.piling_left.specs.TrimmedLaws.{backs_rest, backs_kept, backs_cut, backs_end}
use Rattle.piling_left.proofs.trim_back.Goals as goal

pub returns-then-more-eq0 : goal.returns-then-more-eq0
returns-then-more-eq0 c = backs_rest c.loop-i.invariant c.if-more-eq0.true

pub loop-i-preserved-then-left-k-ne0 : goal.loop-i-preserved-then-left-k-ne0
loop-i-preserved-then-left-k-ne0 c = backs_cut c.loop-i.invariant (omega arith) c.if-left-k-ne0.true

pub loop-i-preserved : goal.loop-i-preserved
loop-i-preserved c = backs_kept c.loop-i.invariant (omega arith) c.if-left-k-ne0.false

pub returns : goal.returns
returns c = backs_end c.loop-i.invariant (omega arith)
