-- For callers: as many bytes as the call says that writes a text out are in the area, as the laws of spec_laws say of
-- the other calls that write (FitLaws). So a caller may take `area[..l]`.
use Rattle.std.specs.Prelude.{ℕ, ◌≤◌, ◌≡◌, List, ◌++◌, length, drop, Result, Ok}
use Rattle.std.proofs.Common.{sym, ◌∙◌, ap, arith, length-append}
use Rattle.spec.specs.Table.{first_line}
use Rattle.spec_laws.specs.CallLaws.{answer_given}
use Rattle.spec.specs.declared.Refusal.{Refusal}
use Rattle.spec.specs.Answers.{told_written}
use Rattle.spec.specs.Calls.{area_after}
use Rattle.spec.specs.Notation.{plan_of, size_of}
use Rattle.spec.specs.WriteOut.{items_of, write_out_lines, write_out_answer, write_out_area}
use Rattle.notation_laws.specs.SizeLaws.{size_exact}

module _ (c s area : List ℕ) {after : List ℕ} {r : Result ℕ Refusal} {l : ℕ} where
  pub write_out_fits : (told_written r ≡ write_out_answer c s area) × (after ≡ write_out_area c s area) → r ≡ Ok l
      → l ≤ length after
  write_out_fits (e, b) k =
      let o = first_line (write_out_lines c s area) in
      let z = plan_of (items_of s) in
      let (none-refuses, same) = answer_given o (size_of (items_of s)) l (sym e ∙ ap told_written k) in
      let stands : after ≡ z ++ drop (length z) area = b ∙ ap (λ p. area_after p z area) none-refuses in
      omega (arith, same, size_exact (items_of s), ap length stands, length-append z (drop (length z) area))
