-- What remains of the piling is read off; of an empty plan nothing does. Assumes nothing.
use mathlib.Core.List.{reverse}
use Rattle.piling_stacks.specs.Pile.{reduced}
use Rattle.piling_equal.specs.PassedLaws.{passed_given}
use Rattle.piling_form.specs.CoringLaws.{passed_whole, remains_readable, remains_form}
use Rattle.piling_form.specs.CoringLaws.{empty_form, empty_pairs}
use Rattle.piling_form.proofs.form.Goals as goal

pub returns-then-plan-eq0 : goal.returns-then-plan-eq0
returns-then-plan-eq0 c = record {
  formed = λ k p. empty_form c.args.cored k c.args.plan.now c.if-plan-eq0.true;
  paired = λ k p. empty_pairs k c.args.plan.now c.if-plan-eq0.true;
}

pub pile-piled-requires : goal.pile-piled-requires
pile-piled-requires c =
    let (k, p, a, l) = c.requires in
    (k, passed_given p c.blank-piling.ensures.rows c.blank-piling.ensures.heights, l)

pub peel_if-requires : goal.peel_if-requires
peel_if-requires c =
    let (k, p, a, l) = c.requires in
    let g = passed_given p c.blank-piling.ensures.rows c.blank-piling.ensures.heights in
    let q = passed_whole p (c.pile-piled.ensures.piled k g).piled c.blank_heights-bottoms.ensures in
    (k, reverse (reduced k c.args.plan.now), q)

pub read_off-left-requires : goal.read_off-left-requires
read_off-left-requires c =
    let (k, p, a, l) = c.requires in
    let g = passed_given p c.blank-piling.ensures.rows c.blank-piling.ensures.heights in
    let w = passed_whole p (c.pile-piled.ensures.piled k g).piled c.blank_heights-bottoms.ensures in
    let (z, q) = c.peel_if.ensures k (reverse (reduced k c.args.plan.now)) w in
    (k, z, remains_readable p c.args.area.now q a)

pub returns : goal.returns
returns c = record {
  formed = λ k p.
      let g = passed_given p c.blank-piling.ensures.rows c.blank-piling.ensures.heights in
      let w = passed_whole p (c.pile-piled.ensures.piled k g).piled c.blank_heights-bottoms.ensures in
      let (z, q) = c.peel_if.ensures k (reverse (reduced k c.args.plan.now)) w in
      remains_form c.args.plan.now q
      (c.read_off-left.ensures k z (remains_readable p c.args.area.now q c.requires.2));
  paired = λ k p.
      c.pile-piled.ensures.paired k (passed_given p c.blank-piling.ensures.rows c.blank-piling.ensures.heights);
}
