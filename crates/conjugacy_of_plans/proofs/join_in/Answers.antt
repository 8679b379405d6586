-- A row of so many bytes is no longer than memory allows. Assumes nothing.
use Rattle.std.proofs.Common.{arith}
use Rattle.conjugacy_of_plans.proofs.join_in.Goals as goal

pub row-row-requires : goal.row-row-requires
row-row-requires g c = omega (arith, c.requires.0)

pub whole_as_slice-lead_in_form : goal.whole_as_slice-lead_in_form
whole_as_slice-lead_in_form g c = omega (arith, c.requires.0)
