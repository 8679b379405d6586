-- One check of a text after another, in the table's order; and the plan of a text that passes them all, written out.
use Rattle.std.specs.Prelude.{ℕ, ◌≤◌, ◌<◌, ◌≡◌, List, [], ◌∷◌, ◌++◌, length, refl, Result, Ok, Err}
use Rattle.std.proofs.Common.{sym, ◌∙◌, ap, arith, lt-ltb, le-ltb}
use Rattle.std.proofs.Math.Option.{Option, none, some}
use Rattle.spec.specs.Table.{Line, line, Answer, refused, given, first_line, or_else}
use Rattle.spec.specs.declared.Refusal.{Refusal}
use Rattle.spec.specs.Answers.{told_written}
use Rattle.spec.specs.Calls.{plan_limit, area_line}
use Rattle.spec.specs.Notation.{plan_of, size_of}
use Rattle.spec.specs.WriteOut.{items_of, text_line, nesting_line, text_lines, text_fault}
use Rattle.spec.specs.WriteOut.{write_out_lines, write_out_answer, write_out_area}
use Rattle.spec_laws.specs.TableLaws.{first_early, first_late, none_left, none_holds}
use Rattle.spec_laws.specs.SearchLaws.{passed_line, refused_line}
use Rattle.spec_laws.specs.CallLaws.{answer_given}
use Rattle.input_catalogue.specs.Checked.{told_checked}
use Rattle.notation_laws.specs.FaultlessLaws.{short}
use Rattle.notation_write_out.specs.Scanned.{Scanned}
use Rattle.array_row.specs.Area.{StartsWith}
use Rattle.array_row.specs.AreaLaws.{starts_area}

-- the lines ys are checked after the lines xs
module _ (xs ys : List (Option Line)) (a : ℕ) (r : Result ℕ Refusal) where
  pub refused_early : (b : ℕ) {f : Refusal} → r ≡ Err f → told_checked r ≡ or_else (first_line xs) b
      → told_checked r ≡ or_else (first_line (xs ++ ys)) a
  refused_early b e t =
      let z = first_early xs ys (refused_line (first_line xs) b (sym (ap told_checked e) ∙ t)) in
      ap told_checked e ∙ sym (ap (λ o. or_else o a) z)

  pub checked_late : first_line xs ≡ none → told_checked r ≡ or_else (first_line ys) a
      → told_checked r ≡ or_else (first_line (xs ++ ys)) a
  checked_late n t = t ∙ sym (ap (λ o. or_else o a) (first_late xs ys n))

-- a check that passes
module _ (o : Option Line) (a : ℕ) (r : Result ℕ Refusal) (t : told_checked r ≡ or_else o a) {n : ℕ} (e : r ≡ Ok n) where
  pub passed_none : o ≡ none
  passed_none = passed_line o a (sym (ap told_checked e) ∙ t)

  pub passed_value : n ≡ a
  passed_value =
      let k : given n ≡ or_else none a = sym (ap told_checked e) ∙ t ∙ ap (λ p. or_else p a) passed_none in
      cc

-- a text that is scanned and passes
pub scanned_passed : {s : List ℕ} {n : ℕ} (r : Result ℕ Refusal)
    → told_checked r ≡ or_else (first_line (text_line s ∷ nesting_line s ∷ [])) (length s) → r ≡ Ok n → Scanned s
scanned_passed {s} r t e =
    let ls : List (Option Line) = text_line s ∷ nesting_line s ∷ [] in
    let (a, (b, end)) = (none_holds ls).0 (passed_none (first_line ls) (length s) r t e) in
    record { text = a; shallow = b }

-- the answer and the final area of the call, once all lines but that of the area are checked
module _ (c s area : List ℕ) where
  abbrev Answers : Answer ℕ → List ℕ → Type 0
  Answers w after = (w ≡ write_out_answer c s area) × (after ≡ write_out_area c s area)

  answers_refused : {w : Answer ℕ} {l : Line} → first_line (write_out_lines c s area) ≡ some l → w ≡ refused l
      → Answers w area
  answers_refused e k = (rw e k, rw e)

pub write_out_refused : (c s area : List ℕ) {l : Line} → refused l ≡ or_else (text_fault c s) (size_of (items_of s))
    → Answers c s area (refused l) area
write_out_refused c s area t =
    let z = refused_line (text_fault c s) (size_of (items_of s)) t in
    answers_refused c s area (first_early (text_lines c s) (area_line 0 (size_of (items_of s)) area ∷ []) z) refl

module _ (c s area : List ℕ) (r : Result ℕ Refusal) (t : told_checked r ≡ or_else (text_fault c s) (size_of (items_of s))) where
  module _ {n : ℕ} (e : r ≡ Ok n) where
    pub no_fault : text_fault c s ≡ none
    no_fault = passed_none (text_fault c s) (size_of (items_of s)) r t e

    pub size_told : n ≡ size_of (items_of s)
    size_told = passed_value (text_fault c s) (size_of (items_of s)) r t e

    late : first_line (write_out_lines c s area) ≡ first_line (area_line 0 (size_of (items_of s)) area ∷ [])
    late = first_late (text_lines c s) (area_line 0 (size_of (items_of s)) area ∷ []) no_fault

    pub write_out_small : {l : Line} → length area < n → l ≡ line 9 0 0 → Answers c s area (refused l) area
    write_out_small h k =
        let i : length area < size_of (items_of s) = omega (arith, size_told) in
        answers_refused c s area (late ∙ rw (lt-ltb (length area) (size_of (items_of s)) i)) (ap refused k)

    pub write_out_written : {after : List ℕ} {k : ℕ} → n ≤ length area → StartsWith (plan_of (items_of s)) area after k
        → Answers c s area (given n) after
    write_out_written h w =
        let i : size_of (items_of s) ≤ length area = omega (arith, size_told) in
        let z : first_line (write_out_lines c s area) ≡ none =
        late ∙ rw (le-ltb (length area) (size_of (items_of s)) i) in
        (rw z (ap given size_told), rw z (starts_area w))

pub write_out_short : (c s area : List ℕ) {r : Result ℕ Refusal} (l : ℕ) → told_written r ≡ write_out_answer c s area
    → r ≡ Ok l → l ≤ plan_limit
write_out_short c s area l e k =
    let (a, b) = answer_given (first_line (write_out_lines c s area)) (size_of (items_of s)) l (sym e ∙ ap told_written k) in
    let f = none_left (text_lines c s) (area_line 0 (size_of (items_of s)) area ∷ []) a in
    omega (arith, b, short c s f)
