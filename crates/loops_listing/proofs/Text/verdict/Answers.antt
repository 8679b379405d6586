-- `verdict` puts one line, whichever the verdict is.
use Rattle.loops_listing.specs.PutLaws.{put_joined, put_apart, put_given}
use Rattle.loops_listing.proofs.Text.verdict.Goals as goal

pub returns-in-Ok-Some-clause-there : goal.returns-in-Ok-Some-clause-there
returns-in-Ok-Some-clause-there c =
    let e = c.in-Ok-Some.is in
    let f = c.in-Ok-Some.field-0-is in
    put_given e (rw e at f) (put_joined _ c.number.ensures.there)

pub returns-in-Ok-None-clause-there : goal.returns-in-Ok-None-clause-there
returns-in-Ok-None-clause-there c =
    let e = c.in-Ok-None.is in
    let f = c.in-Ok-None.field-0-is in
    put_given e (rw e at f) (put_apart c.word.ensures.there)
