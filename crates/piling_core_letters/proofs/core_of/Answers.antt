-- `piling_core_letters::core_of` meets its contract: the plan's pairs and the letters taken off are known, and the
-- letters left are the core's; where no letter is left the core has none. Assumes nothing.
use native.Mathlib.Omega.{arith}
use mathlib.Core.List.{reverse}
use Rattle.piling_stacks.specs.Pile.{reduced}
use Rattle.piling_equal.specs.PassedLaws.{passed_given}
use Rattle.piling_form.specs.CoringLaws.{passed_peelable}
use Rattle.piling_core_letters.specs.CoreLettersLaws.{pairs_fit, pairs_few, pairs_count, peeled_known}
use Rattle.piling_core_letters.specs.CoreLettersLaws.{peeled_count, peeled_fits, peeled_letters, none_letters}
use Rattle.piling_core_letters.proofs.core_of.Goals as goal

pub pile-piled-requires : goal.pile-piled-requires
pile-piled-requires c =
    let (k, p, r) = c.requires in
    let g = passed_given p c.blank-piling.ensures.rows c.blank-piling.ensures.heights in
    (k, g, omega (arith, p.short, c.row-places.ensures))

pub returns-then-piled-eq0 : goal.returns-then-piled-eq0
returns-then-piled-eq0 c = λ k p.
    let g = passed_given p c.blank-piling.ensures.rows c.blank-piling.ensures.heights in
    none_letters k c.args.plan.now (omega (arith, (c.pile-piled.ensures.piled k g).count))

pub peel-taken-requires : goal.peel-taken-requires
peel-taken-requires c =
    let (k, p, r) = c.requires in
    let g = passed_given p c.blank-piling.ensures.rows c.blank-piling.ensures.heights in
    let q = passed_peelable p c.args.lead.now (c.pile-piled.ensures.piled k g).piled c.blank_heights-bottoms.ensures
    r.deep in
    (k, reverse (reduced k c.args.plan.now), q)

pub overflow_mul-paired : goal.overflow_mul-paired
overflow_mul-paired c =
    let (k, p, r) = c.requires in
    let g = passed_given p c.blank-piling.ensures.rows c.blank-piling.ensures.heights in
    omega (arith, pairs_few (c.pile-piled.ensures.paired k g) p)

pub slice_bounds-places-end : goal.slice_bounds-places-end
slice_bounds-places-end c =
    let (k, p, r) = c.requires in
    let g = passed_given p c.blank-piling.ensures.rows c.blank-piling.ensures.heights in
    pairs_fit (c.pile-piled.ensures.paired k g)

pub slice_bounds-letters_left-end : goal.slice_bounds-letters_left-end
slice_bounds-letters_left-end c =
    let (k, p, r) = c.requires in
    let g = passed_given p c.blank-piling.ensures.rows c.blank-piling.ensures.heights in
    pairs_count (c.pile-piled.ensures.paired k g)

pub slice_bounds-letters_left-end-2 : goal.slice_bounds-letters_left-end-2
slice_bounds-letters_left-end-2 c =
    let (k, p, r) = c.requires in
    let g = passed_given p c.blank-piling.ensures.rows c.blank-piling.ensures.heights in
    let q = passed_peelable p c.args.lead.now (c.pile-piled.ensures.piled k g).piled c.blank_heights-bottoms.ensures
    r.deep in
    peeled_fits (c.peel-taken.ensures.peeled k (reverse (reduced k c.args.plan.now)) q).1

pub slice_bounds-letters_left-end-3 : goal.slice_bounds-letters_left-end-3
slice_bounds-letters_left-end-3 c =
    let (k, p, r) = c.requires in
    let g = passed_given p c.blank-piling.ensures.rows c.blank-piling.ensures.heights in
    let q = passed_peelable p c.args.lead.now (c.pile-piled.ensures.piled k g).piled c.blank_heights-bottoms.ensures
    r.deep in
    peeled_count (c.peel-taken.ensures.peeled k (reverse (reduced k c.args.plan.now)) q).1

pub letters_left-left-requires : goal.letters_left-left-requires
letters_left-left-requires c =
    let (k, p, r) = c.requires in
    let g = passed_given p c.blank-piling.ensures.rows c.blank-piling.ensures.heights in
    let q = passed_peelable p c.args.lead.now (c.pile-piled.ensures.piled k g).piled c.blank_heights-bottoms.ensures
    r.deep in
    let (z, d) = c.peel-taken.ensures.peeled k (reverse (reduced k c.args.plan.now)) q in
    (k, z, peeled_known (c.pile-piled.ensures.paired k g) p d, r.wide)

pub returns : goal.returns
returns c = λ k p.
    let g = passed_given p c.blank-piling.ensures.rows c.blank-piling.ensures.heights in
    let q = passed_peelable p c.args.lead.now (c.pile-piled.ensures.piled k g).piled c.blank_heights-bottoms.ensures
    c.requires.2.deep in
    let (z, d) = c.peel-taken.ensures.peeled k (reverse (reduced k c.args.plan.now)) q in
    peeled_letters c.args.plan.now d
    (c.letters_left-left.ensures k z (peeled_known (c.pile-piled.ensures.paired k g) p d))
