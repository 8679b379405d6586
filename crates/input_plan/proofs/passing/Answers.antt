-- `input_plan::passing` meets its contract: a byte up to N passes, one above N and up to 128 does not, and of the
-- others those up to 128 + N do. Assumes nothing.
use mathlib.Core.Path.{sym}
use native.Mathlib.Omega.{arith}
use Rattle.spec_laws.specs.PlanLaws.{passes_low, passes_mid, passes_high}
use Rattle.input_plan.proofs.passing.Goals as goal

pub returns-then-k-commands : goal.returns-then-k-commands
returns-then-k-commands c = sym (passes_low _ _ (omega arith))

pub returns-then-k-le128 : goal.returns-then-k-le128
returns-then-k-le128 c = sym (passes_mid _ _ (omega arith) (omega arith))

pub returns : goal.returns
returns c = sym (passes_high _ _ (omega arith) (omega arith))
