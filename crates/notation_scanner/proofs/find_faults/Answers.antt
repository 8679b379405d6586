-- `notation_scanner::find_faults` meets its contract: each token keeps the invariant, and a fault ends the pass.
use Rattle.std.proofs.Common.{arith, refl}
use Rattle.notation_scanner.specs.ScanLaws.{scanning_start, scanning_again, scanning_wrong, scanning_end}
use Rattle.notation_scanner.proofs.find_faults.Goals as goal

pub loop-i-init : goal.loop-i-init
loop-i-init c = scanning_start _

pub returns-in-Wrong : goal.returns-in-Wrong
returns-in-Wrong c = scanning_wrong c.loop-i.invariant (omega arith) c.token_of-t.ensures refl c.in-Wrong.ensures

pub loop-i-preserved : goal.loop-i-preserved
loop-i-preserved c =
    scanning_again c.loop-i.invariant (omega arith) c.token_of-t.ensures c.after_token-mode.ensures
    c.in_default.not-Wrong c.deep_after-deep.ensures c.depth_after-depth.ensures

pub returns : goal.returns
returns c = scanning_end c.loop-i.invariant (omega arith) c.end_fault-wrong.ensures refl
