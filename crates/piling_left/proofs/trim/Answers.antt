-- `piling_left::trim` meets its contract: there is nothing to take off, or both ends are trimmed. Assumes nothing.
use Rattle.piling_left.specs.LeftLaws.{off_both}
use Rattle.piling_left.proofs.trim.Goals as goal

pub returns : goal.returns
returns c = rw (c.trim_back.ensures, c.trim_front.ensures) (off_both c.args.word.now c.tally-counts.ensures)
