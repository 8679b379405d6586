-- `diagonal` marks the rows' diagonal. The loop's invariant: it is marked below i.
use Rattle.std.proofs.Common.{◌≡◌}
use Rattle.input_conflicts.specs.MarkedRows.{diagonal}
use Rattle.input_conflicts.proofs.diagonal.Given as goal

abbrev pub invariant-loop-i : goal.invariant-loop-i
invariant-loop-i l = l.rows ≡ diagonal l.initial.rows l.i
