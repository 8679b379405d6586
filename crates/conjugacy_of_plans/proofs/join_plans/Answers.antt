-- Both cores are found, and lent with the letters taken off. Assumes nothing.
use native.Mathlib.Omega.{arith}
use Rattle.conjugacy_of_plans.specs.CoresLaws.{core_and_lead}
use Rattle.conjugacy_of_plans.proofs.join_plans.Goals as goal

pub core_of-one-requires : goal.core_of-one-requires
core_of-one-requires c =
    let p = c.requires.1.first in (
      c.requires.0,
      p,
      record {
        wide = omega (arith, p.short, c.row-core1.ensures);
        deep = omega (arith, p.short, c.row-lead1.ensures);
      },
    )

pub core_of-two-requires : goal.core_of-two-requires
core_of-two-requires c =
    let p = c.requires.1.second in (
      c.requires.0,
      p,
      record {
        wide = omega (arith, p.short, c.row-core2.ensures);
        deep = omega (arith, p.short, c.row-lead2.ensures);
      },
    )

pub join_by_cores-requires : goal.join_by_cores-requires
join_by_cores-requires c =
    let (k, p, r) = c.requires in
    let one = core_and_lead (c.core_of-one.ensures k p.first) in
    let two = core_and_lead (c.core_of-two.ensures k p.second) in
    (k, _, _, record { plans = p; first = one; second = two }, r)

pub returns : goal.returns
returns c =
    λ k q.
    let one = core_and_lead (c.core_of-one.ensures k q.first) in
    let two = core_and_lead (c.core_of-two.ensures k q.second) in
    c.join_by_cores.ensures k _ _ (record { plans = q; first = one; second = two })
