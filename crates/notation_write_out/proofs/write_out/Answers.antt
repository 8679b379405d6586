-- `notation_write_out::write_out` meets its contract: a line refuses, or the plan is written.
use Rattle.std.proofs.Common.{ℕ, ◌≡◌, ◌≤◌, List, length, arith, Result, Ok}
use Rattle.std.proofs.lemmas.Result.{err_from_is_err_and}
use Rattle.spec.specs.Table.{or_else}
use Rattle.spec.specs.declared.Refusal.{Refusal}
use Rattle.spec.specs.Notation.{size_of}
use Rattle.spec.specs.WriteOut.{items_of, text_fault}
use Rattle.input_catalogue.specs.Checked.{told_checked}
use Rattle.notation_laws.specs.FaultlessLaws.{no_text_line, no_nesting_line}
use Rattle.notation_laws.specs.WholeLaws.{whole}
use Rattle.notation_writer.specs.Writing.{Room}
use Rattle.notation_write_out.specs.WriteOutLaws.{no_fault, size_told, write_out_refused, write_out_written}
use Rattle.notation_write_out.proofs.write_out.Goals as goal

-- the checks have passed, and the area is large enough
abbrev room : (c s area : List ℕ) (r : Result ℕ Refusal)
    → told_checked r ≡ or_else (text_fault c s) (size_of (items_of s))
    → {n : ℕ} → r ≡ Ok n → n ≤ length area → Room s 0 8 area 0
room c s area r t e h =
    let f = no_fault c s area r t e in
    let k = size_told c s area r t e in
    record { here = whole s (no_text_line c s f) (no_nesting_line c s f); fits = omega (arith, k, h) }

pub returns-in_err-size : goal.returns-in_err-size
returns-in_err-size c =
    let a = c.args in
    let p = err_from_is_err_and c.from_residual.result c.from_residual.ensures.1 in
    let t = write_out_refused a.catalogue.now a.text.now a.area.now c.in_err-size.ensures in
    record { answer = rw (p.1, p.2) t.0; bytes = t.1 }

pub items-requires : goal.items-requires
items-requires c =
    let a = c.args in (
      room a.catalogue.now a.text.now a.area.now _ c.checked.ensures c.in_ok-size.was (omega arith),
      omega arith,
    )

pub returns : goal.returns
returns c =
    let a = c.args in
    let h : c.in_ok-size.size ≤ length a.area.now = omega arith in
    let t = c.checked.ensures in
    let e : c.checked.result ≡ Ok c.in_ok-size.size = c.in_ok-size.was in
    let z = write_out_written a.catalogue.now a.text.now a.area.now _ t e h
    (c.items.ensures (room a.catalogue.now a.text.now a.area.now _ t e h)).bytes in
    record { answer = z.0; bytes = z.1 }
