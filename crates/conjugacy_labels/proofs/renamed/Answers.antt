-- `conjugacy_labels::renamed` meets its contract. Assumes nothing.
use borrow.Author.Tests.{eq-eqb, ne_eqb}
use Rattle.theory_conjugacy.specs.Part.{relabel_step}
use Rattle.conjugacy_labels.proofs.renamed.Goals as goal

pub returns-then-label-low : goal.returns-then-label-low
unfolding relabel_step
returns-then-label-low c = rw (eq-eqb _ _ c.if-label-low.true)

pub returns-else-label-low : goal.returns-else-label-low
unfolding relabel_step
returns-else-label-low c = rw (ne_eqb _ _ c.if-label-low.false)
