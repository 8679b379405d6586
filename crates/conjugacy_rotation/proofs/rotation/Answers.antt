-- A block that differs rules its place out; where none does, the place is the first that fits. Assumes nothing.
use Rattle.std.proofs.Common.{arith, sym, ◌∙◌, ◌≡◌, ap, inl, inr, true≢false, length, below_more}
use Rattle.spec.specs.Answers.{told_option}
use Rattle.conjugacy_rotation.specs.Blocks.{agreed_more, agreed_less, agreed_all}
use Rattle.conjugacy_rotation.specs.SearchLaws.{rotate_near, rotate_far, rotate_both}
use Rattle.conjugacy_rotation.specs.SearchLaws.{rotation_at, rotation_nowhere, rotation_uneven}
use Rattle.conjugacy_rotation.proofs.rotation.Goals as goal

pub returns-then-other-ring : goal.returns-then-other-ring
returns-then-other-ring c = λ k. rotation_uneven k c.args.ring.now c.args.other.now (omega arith)

pub loop-a-preserved : goal.loop-a-preserved
loop-a-preserved c =
    let (n, m, h) = c.loop-a.invariant in
    let ((s, a), (t, b)) = c.in-Some.ensures.steps in
    (s ∙ n, t ∙ m, agreed_more h a.0 b.0 (c.same_block.ensures.0 c.if-not-same_block.false))

pub loop-a-2-preserved : goal.loop-a-2-preserved
loop-a-2-preserved c =
    let (n, m, h) = c.loop-a-2.invariant in
    let ((s, a), (t, b)) = c.in-Some-2.ensures.steps in
    (s ∙ n, t ∙ m, agreed_more h a.0 b.0 (c.same_block-in-loop-a-2.ensures.0 c.if-not-same_block-2.false))

pub starts-preserved-then-not-same_block : goal.starts-preserved-then-not-same_block
starts-preserved-then-not-same_block c =
    let (o, e, f) = c.starts.invariant in
    let (n, m, h) = c.loop-a.invariant in
    let ((s, a), (t, b)) = c.in-Some.ensures.steps in
    let l : length c.in-Some.a.now ≡ length c.in-Some.b.now = omega (arith, a.1, b.1, n, m, h.even) in
    let d = agreed_less _ _ h a.0 b.0 l
    (λ w. true≢false (sym (c.same_block.ensures.1 w) ∙ c.if-not-same_block.true)) in
    (o, e, below_more _ c.starts.i f (λ w. d (rotate_near c.args.ring.now c.args.other.now c.starts.i w)))

pub starts-preserved : goal.starts-preserved
starts-preserved c =
    let (o, e, f) = c.starts.invariant in
    let (n, m, h) = c.loop-a-2.invariant in
    let ((s, a), (t, b)) = c.in-Some-2.ensures.steps in
    let l : length c.in-Some-2.a.now ≡ length c.in-Some-2.b.now = omega (arith, a.1, b.1, n, m, h.even) in
    let d = agreed_less _ _ h a.0 b.0 l
    (λ w. true≢false (sym (c.same_block-in-loop-a-2.ensures.1 w) ∙ c.if-not-same_block-2.true)) in
    (o, e, below_more _ c.starts.i f (λ w. d (rotate_far c.args.ring.now c.args.other.now c.starts.i w)))

pub returns-after-starts : goal.returns-after-starts
returns-after-starts c =
    let (o, e, f) = c.starts.invariant in
    λ k. ap told_option o ∙ rotation_nowhere k c.args.ring.now c.args.other.now (λ j l. f j (omega (arith, e)))

pub returns-in-None-2 : goal.returns-in-None-2
returns-in-None-2 c =
    let (o, e, f) = c.starts.invariant in
    let i = c.starts.i in
    let r = c.args.ring.now in
    let t = c.args.other.now in
    let (n, m, h) = c.loop-a.invariant in
    let (n', m', h') = c.loop-a-2.invariant in
    let a = agreed_all h (elim c.in-None.ensures.steps [
      | inl u ↦ u.1.1.0
      | inr u ↦ omega (arith, h.even, u.1.1.0)
    ]) in
    let b = agreed_all h' (elim c.in-None-2.ensures.steps [
      | inl u ↦ u.1.1.0
      | inr u ↦ omega (arith, h'.even, u.1.1.0)
    ]) in
    λ k. rotation_at k r t i (omega (arith, e)) (rotate_both r t i a b) f
