-- `notation_measure::command` meets its contract: a command that the check lets pass is not above N.
use Rattle.notation_measure.specs.CommandLaws.{command_known, command_above}
use Rattle.notation_measure.proofs.command.Goals as goal

pub returns-then-known : goal.returns-then-known
returns-then-known c = command_known _ _ _ _ c.requires _ c.number_at-n.ensures c.if-known.ensures

pub returns-else-known : goal.returns-else-known
returns-else-known c = command_above _ _ _ _ c.requires _ c.number_at-n.ensures c.if-known.ensures
