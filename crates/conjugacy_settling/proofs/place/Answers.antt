-- `conjugacy_settling::place` meets its contract: each return is one case of `Placed`. Assumes nothing.
use Prim.Native.Nat.{◌-◌}
use mathlib.Core.Path.{sym, ◌∙◌}
use mathlib.Core.Bool.{true≢false}
use mathlib.Core.Logic.{inl, inr}
use native.Mathlib.Omega.{arith}
use Rattle.spec.specs.Byte.{command_of}
use Rattle.array_sets.specs.SetsLaws.{in_unclear}
use Rattle.conjugacy_settling.specs.Halving.{below, above}
use Rattle.conjugacy_settling.proofs.place.Goals as goal
use Rattle.conjugacy_settling.proofs.place.Goals.{else-k-apex-via-then-k-apex+then-not-contains+else-independent}
use Rattle.conjugacy_settling.proofs.place.Goals.{else-k-apex-via-then-k-apex+else-not-contains, else-k-apex-via-else-k-apex}

pub returns-then-independent : goal.returns-then-independent
returns-then-independent c = below c.if-k-apex.true (c.independent.ensures.0 c.if-independent.true)

pub returns : goal.returns
returns c =
    let k = command_of c.args.letter - 1 in
    let own = in_unclear c.requires.table c.args.raised.now k (omega (arith, c.requires.lettered)) in
    above
    (elim c.else-k-apex.branch [
      | else-k-apex-via-then-k-apex+then-not-contains+else-independent w ↦
          inr (λ f. true≢false (sym (w.independent.ensures.1 f) ∙ w.if-independent.false))
      | else-k-apex-via-then-k-apex+else-not-contains w ↦ inr (own (w.contains.ensures.0 w.if-not-contains.false))
      | else-k-apex-via-else-k-apex w ↦ inl w.if-k-apex.false
    ])
    c.add.ensures
