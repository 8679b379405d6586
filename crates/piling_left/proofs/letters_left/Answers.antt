-- `piling_left::letters_left` meets its contract: the plan is copied, and thinned out where it then stands. Assumes
-- nothing.
use Rattle.piling_left.specs.LeftLaws.{known_copied, left_behind}
use Rattle.piling_left.proofs.letters_left.Goals as goal

pub leave-requires : goal.leave-requires
leave-requires c =
    let (k, z, p, l) = c.requires in
    (k, z, known_copied p c.append-n.ensures)

pub returns : goal.returns
returns c = λ k z p. left_behind _ (c.leave.ensures k z (known_copied p c.append-n.ensures))
