-- `notation_write_out::measured` meets its contract: the measure of the text decides lines 8 and 15.
use Rattle.std.proofs.Common.{◌∙◌, arith}
use Rattle.notation_write_out.specs.MeasuredLaws.{all, above_left, above_refused, long_refused, short_passed}
use Rattle.notation_write_out.proofs.measured.Goals as goal

pub items-measure-requires : goal.items-measure-requires
items-measure-requires c = (all c.requires, omega arith)

pub overflow_sub-text : goal.overflow_sub-text
overflow_sub-text c = above_left c.requires (c.items-measure.ensures (all c.requires)) c.in-Some.is

pub returns-in-Some : goal.returns-in-Some
returns-in-Some c =
    c.refused.ensures ∙ above_refused c.requires (c.items-measure.ensures (all c.requires)) c.in-Some.is

pub returns-then-measure-gt1024 : goal.returns-then-measure-gt1024
returns-then-measure-gt1024 c =
    let m = c.items-measure.ensures (all c.requires) in
    c.refused-then-measure-gt1024.ensures ∙ long_refused c.requires m c.in_default.is (omega arith)

pub returns : goal.returns
returns c = short_passed c.requires (c.items-measure.ensures (all c.requires)) c.in_default.is (omega arith)
