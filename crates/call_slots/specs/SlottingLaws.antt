-- The slots call goes through its checks, then line 9 for its first area and for its second.
use Rattle.std.specs.Prelude.{ℕ, ◌<◌, ◌≤◌, ◌≡◌, List, [], ◌∷◌, length, take, refl, Ok, Err}
use Rattle.std.proofs.Common.{sym, ◌∙◌, ap, subst, arith, lt-ltb, le-ltb}
use Rattle.std.proofs.Math.Option.{Option, none, some}
use Rattle.spec.specs.Table.{Line, line, Answer, refused, given, first_line, line_of}
use Rattle.spec_laws.specs.TableLaws.{first_early, first_late}
use Rattle.spec_laws.specs.NormalFormLaws.{normal_length}
use Rattle.spec.specs.declared.Refusal.{Refusal}
use Rattle.spec.specs.Answers.{SlotCounts}
use Rattle.spec.specs.Calls.{area_line}
use Rattle.spec.specs.Letters.{normal_form}
use Rattle.spec.specs.Slots.{slots_lines, slots_answer, slots_area, slots_numbers}
use Rattle.input_checks.specs.Passed as Checks
use Rattle.input_checks.specs.Entry.{OnePlan, one_lines}
use Rattle.input_checks.specs.EntryLaws.{told_none, told_some}
use Rattle.array_row.specs.Area.{StartsWith}
use Rattle.array_row.specs.AreaLaws.{starts_length, starts_take, starts_area}
use Rattle.piling_form.specs.FormLaws.{form_lettered, form_short}
use Rattle.schedule_slots.specs.Numbering.{Numberable, SlotsOf}

-- the normal form that is written can be numbered
pub form_numberable : {c : List ℕ} {conflicts : List (List ℕ)} {v area after numbers : List ℕ} {k : ℕ}
    → Checks.Passed c conflicts v → StartsWith (normal_form c v) area after k → length v ≤ length numbers
    → Numberable c (take k after) conflicts numbers
form_numberable {c} {conflicts} {v} {numbers = numbers} p s h =
    subst (λ (z : List ℕ). Numberable c z conflicts numbers) (sym (starts_take s)) (record {
      letters = form_lettered p;
      table = p.table;
      short = form_short p;
      room = omega (arith, normal_length c v);
    })

-- the answer t and both areas afterwards
pub record Told (c v area numbers : List ℕ) (t : Answer SlotCounts) (after slots_after : List ℕ) : Type 0 where
  pub answer : t ≡ slots_answer c v area numbers
  pub bytes : after ≡ slots_area c v area numbers
  pub numbered : slots_after ≡ slots_numbers c v area numbers

abbrev last : List ℕ → List ℕ → List ℕ → List (Option Line)
last v area numbers = area_line 0 (length v) area ∷ area_line 1 (length v) numbers ∷ []

module _ {c v : List ℕ} (area numbers : List ℕ) where
  refused_by_lem : {t : Answer SlotCounts} {l : Line} → first_line (slots_lines c v area numbers) ≡ some l → t ≡ refused l
      → Told c v area numbers t area numbers
  refused_by_lem e k = record { answer = rw e k; bytes = rw e; numbered = rw e }

  pub slots_refused : {rows : List (List ℕ)} {f : Refusal} → OnePlan c v rows (Err f)
      → Told c v area numbers (refused (line_of f)) area numbers
  slots_refused d = refused_by_lem (first_early (one_lines c v) (last v area numbers) (told_some d.told)) refl

  module _ {rows : List (List ℕ)} {n : ℕ} (d : OnePlan c v rows (Ok n)) where
    late : first_line (slots_lines c v area numbers) ≡ first_line (last v area numbers)
    late = first_late (one_lines c v) (last v area numbers) (told_none d.told)

    pub area_small : {l : Line} → length area < length v → l ≡ line 9 0 0 → Told c v area numbers (refused l) area numbers
    area_small h k = refused_by_lem (late ∙ rw (lt-ltb (length area) (length v) h)) (ap refused k)

    pub numbers_small : {l : Line} → length v ≤ length area → length numbers < length v → l ≡ line 9 0 1
        → Told c v area numbers (refused l) area numbers
    numbers_small h i k =
        refused_by_lem (late ∙ rw (le-ltb (length area) (length v) h, lt-ltb (length numbers) (length v) i))
        (ap refused k)

    pub slots_written : {k m : ℕ} {after slots_after : List ℕ} → length v ≤ length area → length v ≤ length numbers
        → StartsWith (normal_form c v) area after k → SlotsOf c (take k after) numbers slots_after m
        → Told c v area numbers (given (record { length = k; in_use = m })) after slots_after
    slots_written {k} {m} {after} {slots_after} h i s p =
        let z : first_line (slots_lines c v area numbers) ≡ none =
        late ∙ rw (le-ltb (length area) (length v) h, le-ltb (length numbers) (length v) i) in
        let q : SlotsOf c (normal_form c v) numbers slots_after m =
        subst (λ (x : List ℕ). SlotsOf c x numbers slots_after m) (starts_take s) p in
        record {
          answer = rw (z, starts_length s, q.in_use);
          bytes = rw z (starts_area s);
          numbered = rw z (starts_area q.written);
        }
