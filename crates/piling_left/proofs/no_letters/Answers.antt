-- `piling_left::no_letters` meets its contract, by computation.
use Rattle.piling_left.specs.TallyLaws.{tallied_none}
use Rattle.piling_left.proofs.no_letters.Goals as goal

pub returns : goal.returns
returns c = tallied_none
