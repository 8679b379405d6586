-- Laws of the fault call: a fault is what refuses a call, and where there is none only an area can.
use Rattle.std.specs.Prelude.{ℕ, ◌+◌, ◌≡◌, Bool, true, false, length, ltb}
use Rattle.std.proofs.Math.Path.{refl}
use Rattle.std.proofs.Common.{sym, ◌∙◌, ap, arith}
use mathlib.Core.List.{List, [], ◌∷◌, ◌++◌}
use Rattle.std.proofs.Math.Option.{Option, none, some}
use Rattle.theory_words.specs.All.{all_append}
use Rattle.spec.specs.Table.{Line, line, holds, first_of, first_line}
use Rattle.spec_laws.specs.TableLaws.{first_early, first_late, first_left, first_holds, none_left}
use Rattle.spec_laws.specs.TableLaws.{some_same, none-some}
use Rattle.spec_laws.specs.LineLaws.{UpTo, Numbered, plan_up_to, two_up_to, first_up_to}
use Rattle.spec.specs.Catalogue.{commands, catalogue_lines}
use Rattle.spec.specs.Plan.{plan_lines}
use Rattle.spec.specs.Calls.{plan_limit, area_line, normal_form_lines, equal_lines}
use Rattle.spec.specs.Slots.{slots_lines}
use Rattle.spec.specs.Loops.{lead_in_room, lead_in_limit, loops_lines, check_lines}
use Rattle.spec.specs.Fault.{fault_lines, fault_answer}
use Rattle.spec.specs.Demands.{Explains}

-- lines of areas alone
abbrev Nines : List (Option Line) → Type 0
Nines ls = (l : Line) → first_line ls ≡ some l → l.number ≡ 9

no_nines : Nines []
no_nines l e = absurd (none-some e)

area_nines : (i need : ℕ) (area : List ℕ) (ls : List (Option Line)) → Nines ls → Nines (area_line i need area ∷ ls)
area_nines i need area ls h l e = go (ltb (length area) need) e
  where
    go : (t : Bool) → first_line (holds t (line 9 0 i) ∷ ls) ≡ some l → l.number ≡ 9
    go true k = sym (ap (λ x. x.number) (some_same k))
    go false k = h l k

-- a call whose plans have the lines `own`: the lines of empty plans do not hold, and what comes later are areas
explained : (c v w u : List ℕ) (own none_of later : List (Option Line)) → fault_lines c v w u ≡ own ++ none_of
    → first_line none_of ≡ none → Nines later → Explains c v w u (own ++ later)
explained c v w u own none_of later s n h =
    record {
      refuses = λ l e. (first_holds (own ++ later) l).0 (first_early own later (first_left own none_of n (whole e)));
      else_area = λ e l f.
          let k = none_left own none_of (whole e) in
          h l (sym (first_late own later k) ∙ (first_holds (own ++ later) l).1 f);
    }
  where
    whole : {o : Option Line} → fault_answer c v w u ≡ o → first_line (own ++ none_of) ≡ o
    whole e = sym (ap first_line s) ∙ e

module _ (c : List ℕ) where
  abbrev one : List ℕ → List (Option Line)
  one v = catalogue_lines c ++ plan_lines 1 plan_limit (commands c) v

  abbrev two : List ℕ → List ℕ → List (Option Line)
  two v w = one v ++ plan_lines 2 plan_limit (commands c) w

  -- the lines of empty plans
  abbrev empty3 : List (Option Line)
  empty3 = plan_lines 3 lead_in_limit (commands c) []

  abbrev empty2 : List (Option Line)
  empty2 = plan_lines 2 plan_limit (commands c) [] ++ empty3

  pub catalogue_explained : Explains c [] [] [] (catalogue_lines c)
  unfolding first_of
  catalogue_explained =
      explained c [] [] [] (catalogue_lines c) (plan_lines 1 plan_limit (commands c) [] ++ empty2) [] refl refl
      no_nines

  pub form_explained : (v area : List ℕ) → Explains c v [] [] (normal_form_lines c v area)
  unfolding first_of
  form_explained v area =
      explained c v [] [] (one v) empty2 (area_line 0 (length v) area ∷ []) refl refl
      (area_nines 0 (length v) area [] no_nines)

  pub slots_explained : (v area numbers : List ℕ) → Explains c v [] [] (slots_lines c v area numbers)
  unfolding first_of
  slots_explained v area numbers =
      let later = area_line 1 (length v) numbers ∷ [] in
      explained c v [] [] (one v) empty2 (area_line 0 (length v) area ∷ later) refl refl
      (area_nines 0 (length v) area later (area_nines 1 (length v) numbers [] no_nines))

  pub equal_explained : (v w : List ℕ) → Explains c v w [] (equal_lines c v w)
  unfolding first_of
  equal_explained v w = explained c v w [] (two v w) empty3 [] refl refl no_nines

  pub loops_explained : (v w area : List ℕ) → Explains c v w [] (loops_lines c v w area)
  unfolding first_of
  loops_explained v w area =
      explained c v w [] (two v w) empty3 (area_line 0 (lead_in_room c v w) area ∷ []) refl refl
      (area_nines 0 (lead_in_room c v w) area [] no_nines)

  pub check_explained : (v w u area0 area1 : List ℕ) → Explains c v w u (check_lines c v w u area0 area1)
  check_explained v w u area0 area1 =
      let later = area_line 1 (length u + length w) area1 ∷ [] in
      explained c v w u (fault_lines c v w u) [] (area_line 0 (length v + length u) area0 ∷ later) refl refl
      (area_nines 0 (length v + length u) area0 later (area_nines 1 (length u + length w) area1 [] no_nines))

  pub fault_numbered : (v w u : List ℕ) (l : Line) → fault_answer c v w u ≡ some l → Numbered 8 l
  fault_numbered v w u l e =
      first_up_to 8 (fault_lines c v w u)
      (all_append (UpTo 8) (two v w) (plan_lines 3 lead_in_limit (commands c) u)
      (two_up_to 8 (omega arith) plan_limit c v w)
      (plan_up_to 8 3 (omega arith) (omega arith) lead_in_limit (commands c) u)) e
