-- `call_precedence::precedence` meets its contract: a line refuses, or the letters of each pair are compared. Assumes
-- nothing.
use Rattle.input_checks.specs.EntryLaws.{told_none}
use Rattle.array_row.specs.AreaLaws.{starts_take}
use Rattle.call_precedence.specs.ComparingLaws.{pair_refused, pairs_compared, pair_found, none_found}
use Rattle.call_precedence.specs.ComparingLaws.{form_ordered, places_form, places_area}
use Rattle.call_precedence.proofs.precedence.Goals as goal

pub all_lead-requires : goal.all_lead-requires
all_lead-requires c =
    let cat = c.args.catalogue.now in
    let d = c.in_ok-one_plan.ensures in
    let passed = d.passed (told_none d.told) in
    let written = c.form_alone-letters.ensures cat passed in
    ((cat, form_ordered passed written), places_area written c.args.places.now (none_found c.in-None.ensures))

pub returns-in-None : goal.returns-in-None
returns-in-None c =
    let cat = c.args.catalogue.now in
    let d = c.in_ok-one_plan.ensures in
    let passed = d.passed (told_none d.told) in
    let written = c.form_alone-letters.ensures cat passed in
    let pairs = c.args.places.now in
    pairs_compared pairs d (places_form written pairs (none_found c.in-None.ensures)) (starts_take written)
    (c.all_lead.ensures cat (form_ordered passed written))

pub returns-in-Some : goal.returns-in-Some
returns-in-Some c =
    let cat = c.args.catalogue.now in
    let d = c.in_ok-one_plan.ensures in
    let written = c.form_alone-letters.ensures cat (d.passed (told_none d.told)) in
    let pairs = c.args.places.now in
    pair_refused pairs d (places_form written pairs (pair_found c.in-Some.ensures)) c.faulty_pair.ensures
