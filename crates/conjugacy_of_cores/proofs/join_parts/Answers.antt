-- The loop's invariant: the row is as long as it was, and under every catalogue the apexes passed are joined, their
-- lead-ins stand in the row, and their rounds are counted. Assumes nothing.
use Rattle.std.proofs.Common.{refl, ◌∙◌, arith}
use Rattle.conjugacy_of_cores.specs.CountLaws.{joinable_as_long}
use Rattle.conjugacy_of_cores.specs.SofarLaws.{sofar_start, sofar_placeable, sofar_again, sofar_stop, sofar_end}
use Rattle.conjugacy_of_cores.proofs.join_parts.Goals as goal

pub loop-k-init : goal.loop-k-init
loop-k-init c = (refl, λ k x y g h. sofar_start h)

pub join_at-way-requires : goal.join_at-way-requires
join_at-way-requires c =
    let i = c.loop-k.invariant in
    let (k, x, y, g, h) = c.requires in
    (omega arith, (k, x, y, g, sofar_placeable h (i.1 k x y g h) i.0 (omega arith)))

pub rest_rounds-rest-requires : goal.rest_rounds-rest-requires
rest_rounds-rest-requires c =
    let (k, x, y, g, h) = c.requires in
    (omega arith, (k, x, y, g, joinable_as_long h (c.join_at-way.auto.row ∙ c.loop-k.invariant.0)))

pub returns-in_default : goal.returns-in_default
returns-in_default c =
    let i = c.loop-k.invariant in
    let w = c.join_at-way in
    let b = c.rest_rounds-rest in
    λ k x y g h.
    let told = w.ensures k x y g (sofar_placeable h (i.1 k x y g h) i.0 (omega arith)) in
    sofar_stop h (i.1 k x y g h) w.new.row b.new.row (omega arith) told c.in_default.is
    c.larger-most.ensures
    (b.ensures k x y g (joinable_as_long h (w.auto.row ∙ i.0)))
    (omega arith)

pub loop-k-preserved : goal.loop-k-preserved
loop-k-preserved c =
    let i = c.loop-k.invariant in
    let w = c.join_at-way in (
      w.auto.row ∙ i.0,
      λ k x y g h.
          let told = w.ensures k x y g (sofar_placeable h (i.1 k x y g h) i.0 (omega arith)) in
          sofar_again h (i.1 k x y g h) (omega arith) told c.in-Some.is
          (omega arith),
    )

pub returns : goal.returns
returns c = λ k x y g h. sofar_end h (c.loop-k.invariant.1 k x y g h) (omega arith)
