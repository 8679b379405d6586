-- No length that a call answers is above what is handed in or above 49,152, so that its number fits.
use Rattle.std.specs.Prelude.{ℕ, ◌+◌, ◌≤◌, ◌≡◌, List, [], ◌∷◌, length, Result, Ok}
use Rattle.std.proofs.Common.{sym, ◌∙◌, ap, arith, mul-le-mul}
use Rattle.std.proofs.Math.Option.{Option, none, some}
use Rattle.spec.specs.Table.{Line, Answer, given, first_line, or_else}
use Rattle.spec_laws.specs.TableLaws.{none_left, none_right, none-some, some_same}
use Rattle.spec_laws.specs.SearchLaws.{given_not}
use Rattle.spec.specs.Catalogue.{commands, catalogue_lines}
use Rattle.spec.specs.Plan.{plan_lines}
use Rattle.spec_laws.specs.PlanLaws.{lines_pass}
use Rattle.spec.specs.Letters.{normal_form}
use Rattle.spec_laws.specs.NormalFormLaws.{normal_length}
use Rattle.spec_laws.specs.CoreFormLaws.{core_form-length}
use Rattle.spec.specs.declared.Refusal.{Refusal}
use Rattle.spec.specs.declared.Slots.{Slots}
use Rattle.spec.specs.Answers.{told_written, told_slots, DecidedLoops}
use Rattle.spec.specs.Calls.{plan_limit, area_line, normal_form_lines, normal_form_answer, core_form, core_answer}
use Rattle.spec.specs.Slots.{slots_lines, slot_counts, slots_answer}
use Rattle.spec_laws.specs.CallLaws.{answer_given, few_commands}
use Rattle.spec_laws.specs.LoopLaws.{lead_in_same}
use Rattle.spec.specs.Loops.{lead_in_room, lead_in_limit, Looped, refuses, apart, joined}
use Rattle.spec.specs.Program.{core_lines, program_lines}

-- a plan z that is written, no longer than v
written_length : (o : Option Line) (v z : List ℕ) → length z ≤ length v → {r : Result ℕ Refusal} (l : ℕ)
    → told_written r ≡ or_else o (length z) → r ≡ Ok l → l ≤ length v
written_length o v z h l e k = omega (arith, h, (answer_given o (length z) l (sym e ∙ ap told_written k)).1)

module _ (c v area : List ℕ) {r : Result ℕ Refusal} (l : ℕ) where
  pub normal_form_short : told_written r ≡ normal_form_answer c v area → r ≡ Ok l → l ≤ length v
  normal_form_short =
      written_length (first_line (normal_form_lines c v area)) v (normal_form c v) (normal_length c v) l

  pub core_short : told_written r ≡ core_answer c v area → r ≡ Ok l → l ≤ length v
  core_short = written_length (first_line (normal_form_lines c v area)) v (core_form c v) (core_form-length c v) l

pub slots_short : (c v area numbers : List ℕ) {r : Result Slots Refusal} (s : Slots)
    → told_slots r ≡ slots_answer c v area numbers → r ≡ Ok s → s.length ≤ length v
slots_short c v area numbers s e k =
    let t = (answer_given (first_line (slots_lines c v area numbers)) (slot_counts c v) _ (sym e ∙ ap told_slots k)).1 in
    omega (arith, normal_length c v, ap (λ x. x.length) t)

-- the room of a lead-in between plans that no line refuses
pub room_limit : (c v w : List ℕ) → first_line (program_lines c v w) ≡ none → lead_in_room c v w ≤ lead_in_limit
room_limit c v w e =
    let n = commands c in
    let one : first_line (core_lines c v) ≡ none = none_left (core_lines c v) (plan_lines 2 plan_limit n w) e in
    let k : n ≤ 24 = few_commands c (none_left (catalogue_lines c) (plan_lines 1 plan_limit n v) one) in
    let i = ((lines_pass 1 plan_limit n v).0 (none_right (catalogue_lines c) (plan_lines 1 plan_limit n v) one)).0 in
    let j = ((lines_pass 2 plan_limit n w).0 (none_right (core_lines c v) (plan_lines 2 plan_limit n w) e)).0 in
    let s : length v + length w ≤ 2048 = omega (arith, i, j) in
    mul-le-mul k s

pub looped_length : {c v w area after : List ℕ} {t : Answer DecidedLoops} (l : ℕ) {n : ℕ} → Looped c v w area t after
    → t ≡ given (record { lead_in = some l; rounds = n }) → l ≤ lead_in_limit
looped_length l (refuses e) k = absurd (given_not (sym k))
looped_length l (apart e d) k = absurd (none-some (lead_in_same k))
looped_length {c} {v} {w} {area} l (joined e d h) k =
    let room = room_limit c v w (none_left (program_lines c v w) (area_line 0 (lead_in_room c v w) area ∷ []) e) in
    omega (arith, some_same (lead_in_same k), h.short, room)
