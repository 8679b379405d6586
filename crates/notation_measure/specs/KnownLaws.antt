-- What the check of a plan of one byte tells of the byte, and which commands the check lets pass.
use Rattle.std.specs.Prelude.{ℕ, ◌≤◌, ◌≡◌, refl, Bool, true, false, not, [], ◌∷◌, ltb, Result, Ok, Err, is_ok}
use Rattle.std.proofs.Common.{arith, sym, ◌∙◌, ap, ltb-true, ltb-false}
use Rattle.std.proofs.Math.Option.{some, some-ne-none}
use Rattle.spec.specs.Table.{or_else, first_line, line_of}
use Rattle.spec.specs.Plan.{passes, plan_lines}
use Rattle.spec_laws.specs.PlanLaws.{lines_pass, passes_low, passes_mid}
use Rattle.spec_laws.specs.SearchLaws.{passed_line, refused_line}
use Rattle.spec.specs.declared.Refusal.{Refusal}
use Rattle.input_catalogue.specs.Checked.{told_checked}

module _ (n k : ℕ) {r : Result ℕ Refusal} (t : told_checked r ≡ or_else (first_line (plan_lines 1 1 n (k ∷ []))) 1) where
  pub byte_passes : {m : ℕ} → r ≡ Ok m → true ≡ passes n k
  byte_passes e =
      sym ((lines_pass 1 1 n (k ∷ [])).0 (passed_line _ 1 (sym (ap told_checked e) ∙ t))).1.0

  pub byte_refused : {f : Refusal} → r ≡ Err f → false ≡ passes n k
  byte_refused {f} e = go (passes n k) refl
    where
      held : first_line (plan_lines 1 1 n (k ∷ [])) ≡ some (line_of f)
      held = refused_line _ 1 (sym (ap told_checked e) ∙ t)

      go : (b : Bool) → passes n k ≡ b → false ≡ passes n k
      go true p = absurd (some-ne-none _ (sym held ∙ (lines_pass 1 1 n (k ∷ [])).1 (omega arith, (p, tt))))
      go false p = sym p

-- whether the check of a plan of one byte passes
pub byte_known : (n k : ℕ) (r : Result ℕ Refusal) → told_checked r ≡ or_else (first_line (plan_lines 1 1 n (k ∷ []))) 1
    → is_ok r ≡ passes n k
byte_known n k (Ok m) t = byte_passes n k t refl
byte_known n k (Err f) t = byte_refused n k t refl

-- a command passes exactly if it is not above n
pub known_above : (n k : ℕ) → k ≤ 24 → ltb n k ≡ not (passes n k)
known_above n k h = go (ltb n k) refl
  where
    go : (b : Bool) → ltb n k ≡ b → b ≡ not (passes n k)
    go true t = sym (ap not (passes_mid n k (ltb-true n k t) (omega arith)))
    go false t = sym (ap not (passes_low n k (ltb-false n k t)))
