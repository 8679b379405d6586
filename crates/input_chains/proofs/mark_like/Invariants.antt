-- `mark_like` marks the members of a row one by one. The loop's invariant: those from j on are still to be marked.
use Rattle.std.proofs.Common.{◌-◌, get_or, []}
use Rattle.input_chains.specs.MembersLaws.{MarkingMembers}
use Rattle.input_chains.proofs.mark_like.Given as goal

abbrev pub invariant-loop-j : goal.invariant-loop-j
invariant-loop-j l = MarkingMembers l.a (get_or l.own (l.b - 1) []) l.initial.rows l.rows l.j
