-- For callers: as many bytes as a call says that it has written are in the area. So a caller may take `area[..l]`.
use Rattle.std.specs.Prelude.{ℕ, ◌*◌, ◌≤◌, ◌≡◌, refl, List, ◌++◌, length, drop, Result, Ok}
use Rattle.std.specs.Prelude.{Some}
use Rattle.std.proofs.Common.{sym, ◌∙◌, ap, arith, length-append}
use Rattle.std.proofs.Math.Option.{Option, none, some}
use Rattle.spec.specs.Table.{Line, Answer, given, first_line, or_else}
use Rattle.spec_laws.specs.TableLaws.{none-some, some_same}
use Rattle.spec_laws.specs.SearchLaws.{given_not}
use Rattle.spec_laws.specs.CallLaws.{answer_given}
use Rattle.spec_laws.specs.LoopLaws.{lead_in_same}
use Rattle.spec.specs.Letters.{normal_form}
use Rattle.spec.specs.declared.Refusal.{Refusal}
use Rattle.spec.specs.declared.NormalForm.{NormalForm}
use Rattle.spec.specs.declared.Loops.{Loops}
use Rattle.spec.specs.declared.Slots.{Slots}
use Rattle.spec.specs.Answers.{told_written, told_normal_form, told_slots, told_loops, told_option, DecidedLoops}
use Rattle.spec.specs.Answers.{CheckedLeadIn}
use Rattle.spec.specs.Pairs.{reading, pair_numbers}
use Rattle.spec_laws.specs.ReadingLaws.{numbers_length}
use Rattle.spec.specs.Calls.{area_after, normal_form_lines, core_form, core_answer, core_area}
use Rattle.spec.specs.Calls.{paired_lines, paired_counts, paired_answer, paired_area, paired_numbers}
use Rattle.spec.specs.Slots.{slots, slot_counts, slots_lines, slots_answer, slots_area, slots_numbers}
use Rattle.spec_laws.specs.SlotsLaws.{slots_length}
use Rattle.spec.specs.Loops.{Looped, refuses, apart, joined}
use Rattle.spec.specs.Loops.{check_lines, check_result, check_answer, check_area0, check_area1}

-- bytes that stand at the start of a list
at_start : (z rest after : List ℕ) → after ≡ z ++ rest → length z ≤ length after
at_start z rest after e = omega (arith, ap length e, length-append z rest)

-- where no line refuses, z stands at the start of the area
after_fits : (o : Option Line) (z area after : List ℕ) → o ≡ none → after ≡ area_after o z area
    → length z ≤ length after
after_fits o z area after n e =
    at_start z (drop (length z) area) after (e ∙ ap (λ p. area_after p z area) n)

written_fits : (o : Option Line) (z area : List ℕ) {r : Result ℕ Refusal} {after : List ℕ} {l : ℕ}
    → (told_written r ≡ or_else o (length z)) × (after ≡ area_after o z area) → r ≡ Ok l → l ≤ length after
written_fits o z area {after = after} {l = l} (e, b) k =
    let (none-refuses, long) = answer_given o (length z) l (sym e ∙ ap told_written k) in
    omega (arith, long, after_fits o z area after none-refuses b)

-- the normal form in its area, and twice as many numbers as there are pairs in theirs
module _ (c v area pairs : List ℕ) {after numbers : List ℕ} {r : Result NormalForm Refusal} {k : NormalForm} where
  pub normal_form_fits : (told_normal_form r ≡ paired_answer c v area pairs)
      × ((after ≡ paired_area c v area pairs) × (numbers ≡ paired_numbers c v area pairs))
      → r ≡ Ok k → (k.length ≤ length after) × (2 * k.pairs ≤ length numbers)
  normal_form_fits (e, (a, b)) q =
      let o = first_line (paired_lines c v area pairs) in
      let (n, same) = answer_given o (paired_counts c v) _ (sym e ∙ ap told_normal_form q) in (
        omega (arith, ap (λ x. x.length) same, after_fits o (normal_form c v) area after n a),
        omega (
          arith,
          ap (λ x. x.pairs) same,
          numbers_length (reading c v).pairs,
          after_fits o (pair_numbers c v) pairs numbers n b,
        ),
      )

-- the normal form in its area, and as many slots in theirs
module _ (c v area numbers : List ℕ) {after slots_after : List ℕ} {r : Result Slots Refusal} {k : Slots} where
  pub slots_fits : (told_slots r ≡ slots_answer c v area numbers)
      × ((after ≡ slots_area c v area numbers) × (slots_after ≡ slots_numbers c v area numbers))
      → r ≡ Ok k → (k.length ≤ length after) × (k.length ≤ length slots_after)
  slots_fits (e, (a, b)) q =
      let o = first_line (slots_lines c v area numbers) in
      let z = normal_form c v in
      let (m, same) = answer_given o (slot_counts c v) _ (sym e ∙ ap told_slots q) in
      let long = ap (λ x. x.length) same in (
        omega (arith, long, after_fits o z area after m a),
        omega (arith, long, slots_length c z, after_fits o (slots c z) numbers slots_after m b),
      )

module _ (c v area : List ℕ) {after : List ℕ} {r : Result ℕ Refusal} {l : ℕ} where
  pub core_fits : (told_written r ≡ core_answer c v area) × (after ≡ core_area c v area) → r ≡ Ok l → l ≤ length after
  core_fits = written_fits (first_line (normal_form_lines c v area)) (core_form c v) area

looped_fits : {c v w area after : List ℕ} {t : Answer DecidedLoops} {l n : ℕ} → Looped c v w area t after
    → t ≡ given (record { lead_in = some l; rounds = n }) → l ≤ length after
looped_fits (refuses e) k = absurd (given_not (sym k))
looped_fits (apart e d) k = absurd (none-some (lead_in_same k))
looped_fits {area = area} (joined {u} e d h) k =
    omega (
      arith,
      some_same (lead_in_same k),
      at_start u (drop (length u) area) (u ++ drop (length u) area) refl,
    )

pub lead_in_fits : {c v w area after : List ℕ} {r : Result Loops Refusal} {d : Loops} {l : ℕ}
    → Looped c v w area (told_loops r) after → r ≡ Ok d → d.lead_in ≡ Some l → l ≤ length after
lead_in_fits {d = d} h e s =
    looped_fits h (ap told_loops e ∙ ap (λ o. given (record { lead_in = told_option o; rounds = d.rounds })) s)

module _ (c v w u area0 area1 : List ℕ) {after0 after1 : List ℕ} (k : CheckedLeadIn) where
  pub check_fits : check_answer c v w u area0 area1 ≡ given k → after0 ≡ check_area0 c v w u area0 area1
      → after1 ≡ check_area1 c v w u area0 area1 → (k.vu ≤ length after0) × (k.uw ≤ length after1)
  check_fits e b0 b1 =
      let o = first_line (check_lines c v w u area0 area1) in
      let (n, same) = answer_given o (check_result c v w u) k e in (
        omega (arith, ap (λ x. x.vu) same, after_fits o (normal_form c (v ++ u)) area0 after0 n b0),
        omega (arith, ap (λ x. x.uw) same, after_fits o (normal_form c (u ++ w)) area1 after1 n b1),
      )
