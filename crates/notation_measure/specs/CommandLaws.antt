-- The measure of a command, from its number and from whether the check of plans lets it pass.
use Rattle.std.specs.Prelude.{ℕ, ◌≤◌, ◌≡◌, refl, true, false, not, List, ltb, drop}
use Rattle.std.proofs.Common.{arith, sym, ◌∙◌, ap}
use Rattle.std.proofs.Math.Option.{none}
use Rattle.std.specs.Prelude as rust
use Rattle.spec.specs.Table.{found_step}
use Rattle.spec.specs.Plan.{passes}
use Rattle.spec.specs.Notation.{tokens}
use Rattle.notation_laws.specs.Here.{number_of}
use Rattle.notation_parts.specs.declared.Number.{Number}
use Rattle.notation_parts.specs.Numbers.{NumberRead}
use Rattle.notation_parts.specs.StepLaws.{number_onward, number_within}
use Rattle.notation_measure.specs.Measured.{told_above, CommandNumber, Commanded}
use Rattle.notation_measure.specs.KnownLaws.{known_above}

module _ (n : ℕ) (s : List ℕ) (at left : ℕ) (c : CommandNumber (drop at (tokens s))) (q : Number)
    (r : NumberRead s (number_of (drop at (tokens s))) at q) where
  commanded : (a : rust.Option ℕ) → told_above a ≡ found_step (not (passes n q.value)) left none
      → Commanded n s at left (record { size = 1; above = a; end = q.end })
  commanded a e =
      let h : q.value ≤ 24 = omega (arith, r.value, c.high) in
      let z : not (passes n q.value) ≡ ltb n (number_of (drop at (tokens s))).value =
      sym (known_above n q.value h) ∙ ap (ltb n) r.value in
      record {
        size = refl;
        above = e ∙ ap (λ b. found_step b left none) z;
        left = r.left;
        onward = number_onward s at c.small c.digit_first q r;
        within = r.within (omega (arith, number_within s at c.small c.digit_first));
      }

  pub command_known : true ≡ passes n q.value
      → Commanded n s at left (record { size = 1; above = rust.None; end = q.end })
  command_known e = commanded rust.None (ap (λ b. found_step (not b) left none) e)

  pub command_above : false ≡ passes n q.value
      → Commanded n s at left (record { size = 1; above = rust.Some left; end = q.end })
  command_above e = commanded (rust.Some left) (ap (λ b. found_step (not b) left none) e)
