-- The goals of `long_reduction::step` that the check leaves.
use Rattle.std.proofs.Common.{rules, refl, sym, ◌∙◌}
use Rattle.long_reduction.specs.ReducingLaws.{reducing_filler, reducing_lettered, reducing_lined}
use Rattle.long_reduction.specs.ReducingLaws.{reducing_inside, reducing_puttable, reducing_put}
use Rattle.long_reduction.specs.ReducingLaws.{reducing_cuttable, reducing_cut}
use Rattle.long_reduction.proofs.step.Goals as goal
use Rattle.long_reduction.proofs.step.Goals.{else-stacks-k-via-then-stacks-k+else-word-stacks}
use Rattle.long_reduction.proofs.step.Goals.{else-stacks-k-via-else-stacks-k}

pub returns-then-a-eq0 : goal.returns-then-a-eq0
returns-then-a-eq0 g c = λ k r. reducing_filler c.args.p r c.if-a-eq0.true

pub overflow_sub-k : goal.overflow_sub-k
overflow_sub-k g c = (reducing_lettered c.args.p c.requires.1 refl refl c.if-a-eq0.false).0

pub bounds-stacks-k : goal.bounds-stacks-k
bounds-stacks-k g c = (reducing_lined c.args.p c.requires.1 refl refl c.if-a-eq0.false).within

pub bounds-stacks-k-2 : goal.bounds-stacks-k-2
bounds-stacks-k-2 g c = (reducing_lined c.args.p c.requires.1 refl refl c.if-a-eq0.false).within

pub bounds-stacks-k-then-stacks-k : goal.bounds-stacks-k-then-stacks-k
bounds-stacks-k-then-stacks-k g c = (reducing_lined c.args.p c.requires.1 refl refl c.if-a-eq0.false).within

pub overflow_sub-stacks : goal.overflow_sub-stacks
overflow_sub-stacks g c = (reducing_cuttable c.args.p c.requires.1 refl refl c.if-a-eq0.false c.if-stacks-k.true).some

pub bounds-word-stacks : goal.bounds-word-stacks
bounds-word-stacks g c = reducing_inside c.args.p c.requires.1 refl refl c.if-a-eq0.false c.if-stacks-k.true

pub bounds-conflicts-k : goal.bounds-conflicts-k
bounds-conflicts-k g c = (reducing_lined c.args.p c.requires.1 refl refl c.if-a-eq0.false).within

pub cut-requires : goal.cut-requires
cut-requires g c = (search rules, reducing_cuttable c.args.p c.requires.1 refl refl c.if-a-eq0.false c.if-stacks-k.true)

pub returns-then-word-stacks : goal.returns-then-word-stacks
returns-then-word-stacks g c = λ k r.
    reducing_cut c.args.p r refl refl c.if-a-eq0.false c.if-stacks-k.true (c.if-word-stacks.true ∙ c.undo.ensures)
    c.cut.ensures

pub bounds-conflicts-k-2 : goal.bounds-conflicts-k-2
bounds-conflicts-k-2 g c = (reducing_lined c.args.p c.requires.1 refl refl c.if-a-eq0.false).within

pub put-requires : goal.put-requires
put-requires g c = (search rules, reducing_puttable c.args.p c.requires.1 refl refl c.if-a-eq0.false)

pub returns : goal.returns
returns g c = λ k r. reducing_put c.args.p r refl refl c.if-a-eq0.false
    (λ z e. elim c.else-stacks-k.branch [
      | else-stacks-k-via-then-stacks-k+else-word-stacks w ↦ w.if-word-stacks.false (e ∙ sym w.undo.ensures)
      | else-stacks-k-via-else-stacks-k w ↦ w.if-stacks-k.false z
    ])
    c.put.ensures
