-- The goals of `array_sets::add` that the check leaves.
use Rattle.std.proofs.Common.{ℕ, ◌≡◌, ◌↔◌, ◌<◌, Bool, true, false, List, get_or, arith, sym, ◌∙◌, true≢false}
use Rattle.array_sets.specs.Sets.{In}
use Rattle.array_sets.specs.SetsLaws.{lift_room, mark_room, added_new}
use Rattle.array_sets.proofs.add.Goals as goal

-- behind the test the command is not in
outside : {b : Bool} (set : List ℕ) (k : ℕ) → (b ≡ true) ↔ In set k → b ≡ false → get_or set k 0 < 32768
outside set k e f =
    let n : ¬ In set k = λ h. true≢false (sym (e.1 h) ∙ f) in
    omega (arith, n)

pub lift-requires : goal.lift-requires
lift-requires c =
    let (inside, table, meeting) = c.requires in
    lift_room inside meeting table

pub overflow_add-set : goal.overflow_add-set
overflow_add-set c =
    let (inside, table, meeting) = c.requires in
    let out = outside c.args.set.now c.args.k c.contains.ensures c.if-contains.false in
    omega (arith, mark_room inside meeting table c.lift.ensures out)

pub returns : goal.returns
returns c =
    let (inside, table, meeting) = c.requires in
    added_new inside meeting table c.lift.ensures
    (outside c.args.set.now c.args.k c.contains.ensures c.if-contains.false)
