-- `refusal` puts the numbers of a refusal one behind the other.
use Rattle.spec.specs.Table.{line_of}
use Rattle.loops_listing.specs.PutLaws.{put_refused}
use Rattle.loops_listing.proofs.Text.refusal.Goals as goal

pub returns-clause-there : goal.returns-clause-there
returns-clause-there c =
    put_refused (line_of c.args.refusal) c.number.result c.number.ensures
    c.number-2.ensures.there c.number-3.ensures.there c.number-4.ensures.there c.requires
