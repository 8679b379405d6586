-- `conjugacy_ring::sorted` meets its contract: a word whose commands all conflict with each other is its own normal
-- form. Assumes nothing.
use Rattle.conjugacy_settled_parts.specs.PartOfLaws.{cyclic_lettered}
use Rattle.conjugacy_ring.specs.SortedLaws.{cyclic_given, cyclic_formable, clique_copied}
use Rattle.conjugacy_ring.proofs.sorted.Goals as goal

pub occurring-flags-requires : goal.occurring-flags-requires
occurring-flags-requires c = cyclic_lettered c.requires.0.1

pub returns-then-clique : goal.returns-then-clique
returns-then-clique c =
    λ k h.
    let o = c.occurring-flags.ensures k in
    clique_copied h ((c.clique.ensures k _ h.table o).0 c.if-clique.true) c.append.ensures

pub form-requires : goal.form-requires
form-requires c =
    let ((k, h), l) = c.requires in
    (k, cyclic_formable h l)

pub returns : goal.returns
returns c = λ k h. c.form.ensures k (cyclic_given h)
