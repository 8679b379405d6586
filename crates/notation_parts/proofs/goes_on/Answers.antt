-- `notation_parts::goes_on` meets its contract: the byte here tells, and behind the text's end nothing stands.
use Rattle.std.proofs.Common.{arith}
use Rattle.notation_parts.specs.PlaceLaws.{goes_at}
use Rattle.notation_parts.proofs.goes_on.Goals as goal

pub returns-then-at-text : goal.returns-then-at-text
returns-then-at-text c = goes_at c.args.text.now c.args.at (omega arith)
