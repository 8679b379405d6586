-- `blank` has no mark in any of its cells.
use Rattle.input_conflicts.specs.MarkedRowsLaws.{blank_rows_lem}
use Rattle.input_conflicts.proofs.blank.Goals as goal

pub returns : goal.returns
returns c = blank_rows_lem
