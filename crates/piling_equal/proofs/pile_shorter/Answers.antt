-- `piling_equal::pile_shorter` meets its contract: the plan that the test of the lengths chooses is piled up.
use native.Mathlib.Omega.{arith}
use Rattle.piling_equal.specs.PassedLaws.{passed_given}
use Rattle.piling_equal.specs.EqualLaws.{shorter_second, shorter_first}
use Rattle.piling_equal.proofs.pile_shorter.Goals as goal

pub pile-shorter-requires : goal.pile-shorter-requires
pile-shorter-requires c =
    let (k, p, q, r, h, l) = c.requires in
    (k, passed_given q r h, omega (arith, q.short, l))

pub returns-then-w-v : goal.returns-then-w-v
returns-then-w-v c = λ k p q.
    rw (shorter_second c.args.v.now c.args.w.now c.if-w-v.true)
    (c.pile-shorter.ensures.piled k (passed_given q c.requires.3 c.requires.4))

pub pile-shorter-requires-2 : goal.pile-shorter-requires-2
pile-shorter-requires-2 c =
    let (k, p, q, r, h, l) = c.requires in
    (k, passed_given p r h, omega (arith, p.short, l))

pub returns : goal.returns
returns c = λ k p q.
    rw (shorter_first c.args.v.now c.args.w.now c.if-w-v.false)
    (c.pile-shorter-2.ensures.piled k (passed_given p c.requires.3 c.requires.4))
