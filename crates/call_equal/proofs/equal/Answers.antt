-- `call_equal::equal` meets its contract: a line refuses, or the plans are compared. Assumes nothing.
use Rattle.input_checks.specs.EntryLaws.{told_none}
use Rattle.call_equal.specs.EqualityLaws.{equal_told}
use Rattle.call_equal.proofs.equal.Goals as goal

pub returns : goal.returns
returns c =
    let d = c.in_ok-two_plans.ensures in
    let (v, w) = d.passed (told_none d.told) in
    equal_told d (c.equal.ensures c.args.catalogue.now v w)
