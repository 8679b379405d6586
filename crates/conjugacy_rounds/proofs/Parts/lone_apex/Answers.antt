-- `conjugacy_rounds::Parts::lone_apex` meets its contract: behind the first apex there is no other. Assumes nothing.
use Rattle.std.proofs.Common.{arith}
use Rattle.conjugacy_rounds.specs.ApexesLaws.{lone_apex}
use Rattle.conjugacy_rounds.proofs.Parts.lone_apex.Goals as goal

pub returns-in-None : goal.returns-in-None
returns-in-None c =
    let (l, f) = c.in_ok-first.ensures in
    (l, lone_apex f l c.in-None.ensures (omega arith))
