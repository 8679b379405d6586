-- What the loop of `schedule_chains::leads` keeps: the set has the commands that a chain reaches from the first letter,
-- before place m.
use Rattle.schedule_chains.specs.FollowingLaws.{Following}
use Rattle.schedule_chains.proofs.leads.Given as goal

abbrev pub invariant-loop-m : goal.invariant-loop-m
invariant-loop-m l = Following l.word l.conflicts l.fn.i l.fn.j l.reached l.m
