-- `piling_stacks::opposite` meets its contract: a byte of a command is 1 to 127, or 129 to 255.
use native.Mathlib.Omega.{arith}
use mathlib.Core.Path.{sym}
use Rattle.spec.specs.AlphabetLaws.{undone_does, undone_undoes}
use Rattle.piling_stacks.proofs.opposite.Goals as goal

pub returns-then-letter-lt128 : goal.returns-then-letter-lt128
returns-then-letter-lt128 c = sym (undone_does c.args.letter (omega arith) (omega arith))

pub returns-else-letter-lt128 : goal.returns-else-letter-lt128
returns-else-letter-lt128 c = sym (undone_undoes c.args.letter (omega arith) (omega (arith, c.ranges.letter)))
