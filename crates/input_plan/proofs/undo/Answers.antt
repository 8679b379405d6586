-- `input_plan::undo` meets its contract: each return is one kind of byte. Assumes nothing.
use mathlib.Core.Path.{sym}
use native.Mathlib.Omega.{arith}
use Rattle.spec.specs.AlphabetLaws.{undone_zero, undone_128, undone_does, undone_undoes}
use Rattle.input_plan.proofs.undo.Goals as goal

pub returns-then-b-eq0 : goal.returns-then-b-eq0
returns-then-b-eq0 c = sym (undone_zero _ (omega arith))

pub returns-then-b-lt128 : goal.returns-then-b-lt128
returns-then-b-lt128 c = sym (undone_does _ (omega arith) (omega arith))

pub returns-then-b-eq128 : goal.returns-then-b-eq128
returns-then-b-eq128 c = sym (undone_128 _ (omega arith) (omega arith))

pub returns : goal.returns
returns c = sym (undone_undoes _ (omega arith) (omega arith))
