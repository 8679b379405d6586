-- `piling_stacks::Piling::cancel` meets its contract. Where the top bead of the letter's own stack is its undo, that can come
-- first in every word that is piled, and the letter cuts it; else it cannot.
use native.Mathlib.Omega.{arith}
use mathlib.Core.Path.{◌∙◌, sym}
use Rattle.piling_stacks.specs.PilingLaws.{top_first, first_top, cut_room, cut_acts, gone_off}
use Rattle.piling_stacks.specs.PilingLaws.{none_off}
use Rattle.piling_stacks.proofs.Piling.cancel.Goals as goal

pub returns-then-self-k : goal.returns-then-self-k
returns-then-self-k c = λ k z r.
    let f = top_first r (omega arith) (c.if-self-k.true ∙ c.opposite.ensures) in
    gone_off f (cut_acts r f c.lower.ensures)

pub lower-requires : goal.lower-requires
lower-requires c =
    let r = c.requires.2 in
    cut_room r (top_first r (omega arith) (c.if-self-k.true ∙ c.opposite.ensures))

pub returns-else-self-k : goal.returns-else-self-k
returns-else-self-k c = λ k z r.
    none_off r.piled (λ f. c.if-self-k.false ((first_top r f).1 ∙ sym c.opposite.ensures))

pub returns-else-h-gt0 : goal.returns-else-h-gt0
returns-else-h-gt0 c = λ k z r. none_off r.piled (λ f. let (l, e) = first_top r f in omega arith)
