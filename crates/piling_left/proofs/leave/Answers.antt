-- `piling_left::leave` meets its contract: the pairs are blanked, the ends trimmed, and the letters moved up. Assumes
-- nothing.
use Rattle.piling_left.specs.LeftLaws.{known_low, known_left}
use Rattle.piling_left.proofs.leave.Goals as goal

pub blank-requires : goal.blank-requires
blank-requires c = known_low c.requires.2

pub returns : goal.returns
returns c = λ k z p. known_left p c.blank.ensures c.trim.ensures c.close_up.ensures
