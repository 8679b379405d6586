-- What an outcome is to those who pass it on: an answer of the loops call.
use Rattle.spec.specs.Table.{Answer, given}
use Rattle.spec.specs.Answers.{DecidedLoops, told_option}
use Rattle.conjugacy_of_parts.specs.declared.Outcome.{Outcome}

-- a lead-in of this length, or apart, with the rounds
abbrev pub told_outcome : Outcome → Answer DecidedLoops
told_outcome o = given (record { lead_in = told_option o.end; rounds = o.rounds })
