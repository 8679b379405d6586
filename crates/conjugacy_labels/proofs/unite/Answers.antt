-- `conjugacy_labels::unite` meets its contract. Assumes nothing.
use native.Mathlib.Omega.{arith}
use Rattle.conjugacy_labels.specs.MergeLaws.{united, united_equal}
use Rattle.conjugacy_labels.proofs.unite.Goals as goal

pub returns-then-a-b : goal.returns-then-a-b
returns-then-a-b c =
    let p = c.requires in
    λ lab h. united _ _ p.0 p.1 c.relabel.ensures (omega arith) (omega arith) h

pub returns-then-b-a : goal.returns-then-b-a
returns-then-b-a c =
    let p = c.requires in
    λ lab h. united _ _ p.0 p.1 c.relabel-then-b-a.ensures (omega arith) (omega arith) h

pub returns-else-b-a : goal.returns-else-b-a
returns-else-b-a c =
    let p = c.requires in
    λ lab h. united_equal _ _ p.0 p.1 (omega arith) h
