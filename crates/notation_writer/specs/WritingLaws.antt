-- Writing a sequence out part by part, as the loop of `items` meets them.
use Rattle.std.specs.Prelude.{ℕ, ◌+◌, ◌≤◌, ◌≡◌, refl, false, length, drop}
use Rattle.std.proofs.Common.{arith, ◌∙◌, length-append}
use Rattle.std.proofs.Math.Path.{sym, ap}
use mathlib.Core.List.{List, [], ◌++◌, append_assoc, append-nil}
use Rattle.spec.specs.Notation.{tokens, plan_of, size_of}
use Rattle.array_row.specs.RowLaws.{appended_start, appended_length}
use Rattle.notation_laws.specs.Here.{goes_on}
use Rattle.notation_laws.specs.HereLaws.{here_over}
use Rattle.notation_laws.specs.SizeLaws.{size_exact}
use Rattle.array_row.specs.AppendLaws.{appended_then}
use Rattle.notation_writer.specs.declared.Reached.{Reached}
use Rattle.notation_writer.specs.Writing.{Room, Wrote, WrotePart}

module _ {s : List ℕ} {at d : ℕ} {area : List ℕ} {to : ℕ} (m : Room s at d area to) where
  pub write_start : at ≤ length s → WrotePart s at d area to m area (record { at = at; to = to })
  write_start h = record {
    behind = m.here;
    same_rest = refl;
    part = [];
    bytes = appended_start area to;
    plan = refl;
    within = h;
  }

  module _ {row : List ℕ} {r : Reached} (w : WrotePart s at d area to m row r) where
    part_size : size_of m.here.says ≡ length w.part + size_of w.behind.says
    part_size =
        sym (size_exact m.here.says)
        ∙ ap length w.plan
        ∙ length-append w.part (plan_of w.behind.says)
        ∙ ap (λ z. length w.part + z) (size_exact w.behind.says)

    -- the place up to which the area is written is in it
    write_fits : r.to ≤ length area
    write_fits = omega (arith, w.bytes.ends, m.fits, part_size)

    pub write_length : length row ≡ length area
    write_length = appended_length w.bytes write_fits

    -- the rest fits too
    pub write_room_fits : r.to + size_of w.behind.says ≤ length row
    write_room_fits = omega (arith, w.bytes.ends, m.fits, part_size, write_length)

    abbrev pub write_room : Room s r.at d row r.to
    write_room = record { here = w.behind; fits = write_room_fits }

    pub write_again : {more : List ℕ} {q : Reached} → WrotePart s r.at d row r.to write_room more q
        → WrotePart s at d area to m more q
    write_again v = record {
      behind = v.behind;
      same_rest = v.same_rest ∙ w.same_rest;
      part = w.part ++ v.part;
      bytes = appended_then w.bytes v.bytes write_fits;
      plan =
          w.plan
          ∙ ap (λ z. w.part ++ z) v.plan
          ∙ sym (append_assoc w.part v.part (plan_of v.behind.says));
      within = v.within;
    }

    pub write_end : goes_on (drop r.at (tokens s)) ≡ false → at ≤ r.at → Wrote s at d area to m row r
    unfolding plan_of
    write_end g h =
        let o = here_over w.behind g in
        let e : plan_of m.here.says ≡ w.part
        = w.plan ∙ ap (λ z. w.part ++ plan_of z) o.1 ∙ append-nil w.part in
        record {
          bytes = rw e w.bytes;
          left = sym o.0 ∙ w.same_rest;
          onward = h;
          within = w.within;
        }
