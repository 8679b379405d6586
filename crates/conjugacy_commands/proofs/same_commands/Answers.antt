-- `conjugacy_commands::same_commands` meets its contract. Assumes nothing.
use Rattle.conjugacy_commands.specs.FlagsLaws.{same_flags}
use Rattle.conjugacy_commands.proofs.same_commands.Goals as goal

pub returns : goal.returns
returns c = λ ks js h g. same_flags c.eq.ensures h g
