-- The demand on the notation, proved as one value of its statement in the crate spec. For readers: no code relies on
-- it.
use Rattle.std.specs.Prelude.{ℕ, ◌≤◌, ◌≡◌, Bool, true, false, List, [], ◌∷◌, ◌++◌, length, take, drop, ltb}
use Rattle.std.proofs.Common.{sym, ◌∙◌, ap, take_at, drop_at, arith}
use Rattle.std.proofs.Math.Option.{none, some}
use Rattle.spec.specs.Table.{Line, line, holds, given, first_line, NoneHolds, FirstHolds}
use Rattle.spec_laws.specs.TableLaws.{first_early, first_late, first_holds, none_left, none_holds}
use Rattle.spec_laws.specs.TableLaws.{none-some, some_same}
use Rattle.spec.specs.Catalogue.{commands}
use Rattle.spec.specs.Plan.{plan_lines, Passing}
use Rattle.spec_laws.specs.PlanLaws.{lines_pass}
use Rattle.spec.specs.Calls.{plan_limit, area_line}
use Rattle.spec_laws.specs.CallLaws.{answer_given}
use Rattle.spec.specs.Notation.{Items, Text, plan_of, size_of}
use Rattle.spec.specs.WriteOut.{items_of, text_lines, text_fault}
use Rattle.spec.specs.WriteOut.{write_out_lines, write_out_answer, write_out_area}
use Rattle.spec.specs.Demands.{NotationDemand}
use Rattle.notation_laws.specs.FollowLaws.{one_reading}
use Rattle.notation_laws.specs.MendLaws.{wrong_exact, text_exact}
use Rattle.notation_laws.specs.NestingLaws.{nesting_exact}
use Rattle.notation_laws.specs.SizeLaws.{size_exact}
use Rattle.notation_laws.specs.PassLaws.{written_passing}
use Rattle.notation_laws.specs.WholeLaws.{items_taken, items_text}
use Rattle.notation_laws.specs.FaultlessLaws.{no_text_line, none_above, short}

-- what is written out is short and passes, where nothing is wrong with the text
written : (c s : List ℕ) → text_fault c s ≡ none
    → (t : Items) × Text s t × (length (plan_of t) ≤ plan_limit) × Passing (commands c) (plan_of t)
written c s e =
    let t = items_of s in (
      t,
      items_text s (no_text_line c s e),
      omega (arith, size_exact t, short c s e),
      written_passing (commands c) t (none_above c s e),
    )

written_area : (c s area : List ℕ) (t : Items) → first_line (write_out_lines c s area) ≡ none → items_of s ≡ t
    → write_out_area c s area ≡ plan_of t ++ drop (length (plan_of t)) area
written_area c s area t none-refuses known = rw (none-refuses, known)

write_out : (c s area : List ℕ) (l : ℕ) → write_out_answer c s area ≡ given l
    → (t : Items) × Text s t × (length (take l (write_out_area c s area)) ≡ l)
    × (take l (write_out_area c s area) ≡ plan_of t) × (drop l (write_out_area c s area) ≡ drop l area)
    × NoneHolds (plan_lines 1 plan_limit (commands c) (plan_of t))
write_out c s area l e =
    let (none-refuses, same) = answer_given (first_line (write_out_lines c s area)) (size_of (items_of s)) l e in
    let (t, p, short, passing) =
    written c s (none_left (text_lines c s) (area_line 0 (size_of (items_of s)) area ∷ []) none-refuses) in
    let z = plan_of t in
    let rest = drop (length z) area in
    let long : length z ≡ l = size_exact t ∙ ap size_of (sym (items_taken s t p)) ∙ same in
    let area-after = written_area c s area t none-refuses (items_taken s t p) in
    let front = ap (take l) area-after ∙ take_at z rest l long in (
      t,
      p,
      ap length front ∙ long,
      front,
      ap (drop l) area-after ∙ drop_at z rest l long ∙ ap (λ n. drop n area) long,
      (none_holds (plan_lines 1 plan_limit (commands c) z)).0 ((lines_pass 1 plan_limit (commands c) z).1 (short, passing)),
    )

-- what is wrong with a catalogue and a text is what the call is refused for, and else only the area can be

fault : (c s area : List ℕ) (l : Line) → text_fault c s ≡ some l → FirstHolds l (write_out_lines c s area)
fault c s area l e =
    (first_holds (write_out_lines c s area) l).0
    (first_early (text_lines c s) (area_line 0 (size_of (items_of s)) area ∷ []) e)

area_only : (t : Bool) (l : Line) → first_line (holds t (line 9 0 0) ∷ []) ≡ some l → l ≡ line 9 0 0
area_only true l e = sym (some_same e)
area_only false l e = absurd (none-some e)

else_area : (c s area : List ℕ) → text_fault c s ≡ none → (l : Line) → FirstHolds l (write_out_lines c s area)
    → l ≡ line 9 0 0
else_area c s area e l f =
    let need = size_of (items_of s) in
    area_only (ltb (length area) need) l
    (sym (first_late (text_lines c s) (area_line 0 need area ∷ []) e) ∙ (first_holds (write_out_lines c s area) l).1 f)

pub notation_demand : NotationDemand
notation_demand =
    record {
      one_reading = one_reading;
      wrong = wrong_exact;
      text = text_exact;
      taken = items_taken;
      nesting = nesting_exact;
      size = size_exact;
      write_out = write_out;
      fault = fault;
      else_area = else_area;
    }
