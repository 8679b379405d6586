-- What each kind of item writes: a blank, a command, a group.
use Rattle.std.specs.Prelude.{ℕ, zero, suc, ◌+◌, ◌-◌, ◌*◌, ◌≤◌, ◌<◌, ◌≡◌, refl, Bool, true, false, List, [], ◌∷◌, ltb, length, take, drop, set}
use Rattle.std.proofs.Common.{arith, mul-le-mul_right, one-mul, sym, ◌∙◌, subst, lt-ltb, le-ltb}
use Rattle.std.proofs.Math.Path.{ap}
use Rattle.spec.specs.Answers.{yes_no}
use Rattle.spec.specs.Notation.{tokens, signed_byte, signed_plan, repeated, plan_of, size_of}
use Rattle.array_row.specs.Row.{Appended}
use Rattle.array_row.specs.RowLaws.{appended_start, appended_length, appended_again}
use Rattle.notation_laws.specs.Here.{goes_on, is_blank, is_minus, number_of}
use Rattle.notation_laws.specs.SizeLaws.{repeated-length, size_exact}
use Rattle.notation_parts.specs.declared.Number.{Number}
use Rattle.notation_parts.specs.Numbers.{NumberRead}
use Rattle.notation_parts.specs.PlaceLaws.{goes_within}
use Rattle.notation_parts.specs.StepLaws.{moved, step_blank, Plain, step_command, number_onward, number_within}
use Rattle.notation_parts.specs.GroupLaws.{Counted, counted_says, counted_behind, counted_within}
use Rattle.array_row.specs.AppendLaws.{appended_over, appended_between}
use Rattle.notation_writer.specs.declared.Reached.{Reached}
use Rattle.notation_writer.specs.Writing.{Room, Wrote, WrotePart}

-- a minus stands before the place behind it
pub minus_before : (at from : ℕ) (b : Bool) → from ≡ at + yes_no b → ltb at from ≡ b
minus_before at from true e = lt-ltb at from (omega arith)
minus_before at from false e = le-ltb at from (omega arith)

-- written no times, undone or not
none : (u : Bool) (count : ℕ) (w : List ℕ) → count ≡ 0 → [] ≡ signed_plan u (repeated count w)
unfolding repeated
none true zero w e = refl
none false zero w e = refl
none u (suc n) w e = absurd (omega arith)

module _ {s : List ℕ} {at d : ℕ} {area : List ℕ} {to : ℕ} (m : Room s at d area to) where
  pub blank_written : goes_on (drop at (tokens s)) ≡ true → is_blank (drop at (tokens s)) ≡ true
      → WrotePart s at d area to m area (record { at = at + 1; to = to })
  blank_written goes b =
      let (k, e, f) = step_blank s at m.here b in
      record {
        behind = k;
        same_rest = e;
        part = [];
        bytes = appended_start area to;
        plan = ap plan_of (sym f);
        within = omega (arith, goes_within s at goes);
      }

  -- a command whose digits begin at `from`
  module _ {from : ℕ} (p : Plain s at from) where
    pub command_fits : to < length area
    unfolding size_of
    command_fits = omega (arith, m.fits, ap size_of (step_command s at m.here p).begins)

    module _ {q : Number} (c : NumberRead s (number_of (drop from (tokens s))) from q) where
      pub command_onward : at < q.end
      command_onward =
          let f = step_command s at m.here p in
          omega (arith, p.place, number_onward s from f.small f.digit_first q c)

      pub command_written : {b : ℕ} {v : Bool} → b ≡ signed_byte v q.value → v ≡ is_minus (drop at (tokens s))
          → WrotePart s at d area to m (set area to b) (record { at = q.end; to = to + 1 })
      unfolding plan_of
      command_written {b} {v} e i =
          let f = step_command s at m.here p in
          let rest = plan_of f.behind.says in
          record {
            behind = moved (sym c.left) f.behind;
            same_rest = f.same_rest;
            part = b ∷ [];
            bytes = appended_again (appended_start area to) b command_fits;
            plan =
                ap plan_of f.begins
                ∙ ap (λ z. signed_byte (is_minus (drop at (tokens s))) z ∷ rest) (sym c.value)
                ∙ ap (λ z. signed_byte z q.value ∷ rest) (sym i)
                ∙ ap (λ z. z ∷ rest) (sym e);
            within = c.within (omega (arith, number_within s from f.small f.digit_first));
          }

  -- a group whose inside begins at place p
  module _ {u : Bool} {p : ℕ} {q : Number} (g : Counted s u p d q m.here.rest m.here.says) where
    -- what it writes once, and how long that is
    abbrev inner : List ℕ
    inner = plan_of g.first.inner.says

    abbrev width : ℕ
    width = size_of g.first.inner.says

    group_size : size_of m.here.says ≡ q.value * width + size_of g.first.behind.says
    unfolding size_of
    group_size = ap size_of (counted_says g)

    -- what is written of it leaves what stands behind it
    group_part : {row : List ℕ} {last : ℕ} → Appended area to (signed_plan u (repeated q.value inner)) row last
        → WrotePart s at d area to m row (record { at = q.end; to = last })
    unfolding plan_of
    group_part a = record {
      behind = counted_behind g;
      same_rest = g.first.same_rest;
      part = signed_plan u (repeated q.value inner);
      bytes = a;
      plan = ap plan_of (counted_says g);
      within = counted_within g;
    }

    pub group_none : q.value ≡ 0 → WrotePart s at d area to m area (record { at = q.end; to = to })
    group_none z =
        group_part (subst (λ y. Appended area to y area to) (none u q.value inner z) (appended_start area to))

    once_fits : 1 ≤ q.value → width ≤ q.value * width
    once_fits h = rw (one-mul width) at (mul-le-mul_right width h)

    -- it fits once
    pub group_room_fits : 1 ≤ q.value → to + width ≤ length area
    group_room_fits h = omega (arith, once_fits h, group_size, m.fits)

    abbrev pub group_room : 1 ≤ q.value → Room s p (d - 1) area to
    group_room h = record { here = g.first.inner; fits = group_room_fits h }

    module _ (h : 1 ≤ q.value) {row : List ℕ} {r : Reached} (w : Wrote s p (d - 1) area to (group_room h) row r) where
      once_at : r.to ≡ to + width
      once_at = omega (arith, w.bytes.ends, size_exact g.first.inner.says)

      once_ends : r.to ≤ length area
      once_ends = omega (arith, once_at, group_room_fits h)

      once_length : length row ≡ length area
      once_length = appended_length w.bytes once_ends

      -- and as often as it is to be written
      pub group_repeats : (to ≤ r.to) × ((1 ≤ q.value) × (to + q.value * (r.to - to) ≤ length row))
      group_repeats =
          let e : r.to - to ≡ width = omega (arith, once_at) in
          (omega (arith, once_at), (h, rw e (omega (arith, once_length, group_size, m.fits))))

      module _ {more : List ℕ} {last : ℕ}
          (a : Appended row to (repeated q.value (drop to (take r.to row))) more last) where
        -- what was copied is what was written
        whole : Appended row to (repeated q.value inner) more last
        whole = rw (appended_between w.bytes once_ends) at a

        last_at : last ≡ to + q.value * width
        last_at =
            whole.ends
            ∙ ap (λ z. to + z) (repeated-length q.value inner
            ∙ ap (λ z. q.value * z) (size_exact g.first.inner.says))

        last_ends : last ≤ length row
        last_ends = omega (arith, last_at, group_size, m.fits, once_length)

        pub group_undoes : (to ≤ last) × (last ≤ length more)
        group_undoes = (omega (arith, last_at), omega (arith, last_ends, appended_length whole last_ends))

        pub group_written : {done : List ℕ} {b : Bool}
            → Appended more to (signed_plan b (drop to (take last more))) done last → b ≡ u
            → WrotePart s at d area to m done (record { at = q.end; to = last })
        group_written {done} c v =
            let e : Appended more to (signed_plan u (repeated q.value inner)) done last
            = rw (appended_between whole last_ends, v) at c in
            group_part
            (appended_over w.bytes (appended_over whole e last_ends (omega arith)) once_ends
            (omega (arith, last_at, once_at, once_fits h)))
