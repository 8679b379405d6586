-- `Question::bring_k` keeps the call.
use Rattle.std.proofs.Common.{◌≡◌}
use Rattle.cases_table.proofs.Question.bring_k.Given as goal

abbrev pub invariant-loop-b : goal.invariant-loop-b
invariant-loop-b l = l.self.call ≡ l.fn.self.call
