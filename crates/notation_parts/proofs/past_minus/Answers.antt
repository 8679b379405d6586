-- `notation_parts::past_minus` meets its contract. A minus stands before the text's end, so the place behind it fits.
use Rattle.notation_parts.specs.PlaceLaws.{minus_mark}
use Rattle.notation_parts.proofs.past_minus.Goals as goal

pub stands-requires : goal.stands-requires
stands-requires c = minus_mark
