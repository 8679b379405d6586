-- What the goals of `array_bits::gather` lack: a bit that is set keeps the lower ones clear, as it was.
use Rattle.std.proofs.Common.{◌-◌, arith, pow_pos, shl_exact}
use Rattle.spec_laws.specs.GatherLaws.{gathering_in}
use Rattle.array_bits.proofs.gather.Goals as goal

pub loop-k-preserved-then-n-high : goal.loop-k-preserved-then-n-high
loop-k-preserved-then-n-high c =
    let k = c.loop-k.k - 1 in
    let e = shl_exact {a = 1} 1 k 32 (omega arith) (omega arith) in
    gathering_in c.loop-k.invariant c.loop-k-test.true (omega (arith, e, pow_pos k)) (omega arith, omega arith, omega arith)
