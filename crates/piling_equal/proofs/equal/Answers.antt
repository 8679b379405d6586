-- `piling_equal::equal` meets its contract: empty plans are the same, and else the longer plan is undone on the piling
-- of the shorter.
use native.Mathlib.Omega.{arith}
use mathlib.Core.Path.{refl, ap}
use Rattle.spec.specs.Letters.{normal_form}
use Rattle.piling_stacks.specs.Pile.{reduced}
use Rattle.piling_equal.specs.Comparing.{shorter, longer}
use Rattle.piling_equal.specs.EqualLaws.{passed_opposed, same_normal, longer_passed, chosen_normal, both_empty}
use Rattle.piling_equal.proofs.equal.Goals as goal

pub returns-then-v-w-eq0 : goal.returns-then-v-w-eq0
returns-then-v-w-eq0 c = λ k p q.
    (λ e. ap (normal_form k) (both_empty c.args.v.now c.args.w.now (omega arith)), λ e. refl)

pub equals_longer-requires : goal.equals_longer-requires
equals_longer-requires c =
    let (k, p, q) = c.requires in
    let v = c.args.v.now in
    let w = c.args.w.now in
    (k, reduced k (shorter v w), passed_opposed (shorter v w) (longer_passed v w p q) (c.pile_shorter-n.ensures k p q))

pub returns : goal.returns
returns c = λ k p q.
    let v = c.args.v.now in
    let w = c.args.w.now in
    let o = passed_opposed (shorter v w) (longer_passed v w p q) (c.pile_shorter-n.ensures k p q) in
    let t = c.equals_longer.ensures k (reduced k (shorter v w)) o in
    let n = same_normal k (shorter v w) (longer v w) in
    let m = chosen_normal v w k in
    (λ e. m.0 (n.0 (t.0 e)), λ e. t.1 (n.1 (m.1 e)))
