-- `notation_measure::known` meets its contract: a plan of one byte passes its check exactly if the byte does.
use Rattle.std.proofs.Common.{◌∙◌}
use Rattle.notation_measure.specs.KnownLaws.{byte_known}
use Rattle.notation_measure.proofs.known.Goals as goal

pub returns : goal.returns
returns c = c.is_ok.ensures.value ∙ byte_known _ _ _ c.check.ensures
