-- `put` puts the heading, the line and the last newline.
use Rattle.std.proofs.Common.{rules}
use Rattle.spec.specs.Listing.{told_verdict}
use Rattle.loops_listing.specs.PutLaws.{put_printed}
use Rattle.loops_listing.proofs.put.Goals as goal

pub returns-clause-text : goal.returns-clause-text
returns-clause-text c =
    let h =
    put_printed (told_verdict c.args.verdict) c.word.ensures.there c.verdict.ensures.there c.word-2.ensures.there
    c.requires in
    search (rules, h.0)
