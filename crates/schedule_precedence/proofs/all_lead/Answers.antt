-- `schedule_precedence::all_lead` meets its contract: what the laws of leading say of the pairs.
use Rattle.std.proofs.Common.{arith, length, not, ap}
use Rattle.spec_laws.specs.PlacesLaws.{places_pass}
use Rattle.schedule_precedence.specs.SearchingLaws.{leading_again, leading_not, leading_end}
use Rattle.schedule_precedence.proofs.all_lead.Goals as goal

pub leads-requires : goal.leads-requires
leads-requires c =
    let (w, f, g, n) =
    places_pass (length c.args.word.now) c.args.places.now c.requires.1 c.loop-p.p (omega arith) in
    (c.requires.0, f, g)

pub returns-then-not-leads : goal.returns-then-not-leads
returns-then-not-leads c =
    leading_not c.loop-p.invariant (omega arith) c.leads.ensures (ap not c.if-not-leads.true)

pub loop-p-preserved : goal.loop-p-preserved
loop-p-preserved c =
    leading_again c.loop-p.invariant (omega arith) c.leads.ensures (ap not c.if-not-leads.false)

pub returns : goal.returns
returns c = leading_end c.loop-p.invariant _ c.requires.1 (omega arith)
