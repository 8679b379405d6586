-- One check after another, in the table's order.
use Rattle.std.specs.Prelude.{ℕ, ◌≤◌, ◌≡◌, List, ◌++◌, length, Result, Ok, Err, refl}
use Rattle.std.proofs.Common.{sym, ◌∙◌, ap, subst, arith}
use Rattle.std.proofs.Math.Option.{Option, none, some}
use Rattle.spec.specs.Table.{Line, Answer, refused, given, first_line, or_else, line_of}
use Rattle.spec_laws.specs.TableLaws.{first_early, first_late, none_left, none_right}
use Rattle.spec_laws.specs.SearchLaws.{passed_line, refused_line}
use Rattle.spec.specs.declared.Refusal.{Refusal}
use Rattle.spec.specs.Catalogue.{commands, catalogue_lines}
use Rattle.input_conflicts.specs.Reading.{Reading}
use Rattle.spec.specs.Plan.{plan_lines, Passing}
use Rattle.spec_laws.specs.PlanLaws.{lines_pass}
use Rattle.spec.specs.Calls.{plan_limit}
use Rattle.spec_laws.specs.CallLaws.{few_commands}
use Rattle.spec.specs.Loops.{lead_in_limit}
use Rattle.input_checks.specs.Entry.{Told, Entered, OnePlan, TwoPlans, ThreePlans, one_lines, two_lines, three_lines}
use Rattle.input_checks.specs.Entry.{SameRefusal}

-- where the checks before are told
module _ {c : List ℕ} {ls : List (Option Line)} where
  pub told_none : {n : ℕ} → Told c ls (Ok n) → first_line ls ≡ none
  told_none d = passed_line (first_line ls) (commands c) d.is

  told_commands : {n : ℕ} → Told c ls (Ok n) → n ≡ commands c
  told_commands {n} d =
      let k : given n ≡ or_else none (commands c) = d.is ∙ ap (λ p. or_else p (commands c)) (told_none d) in
      cc

  pub told_some : {f : Refusal} → Told c ls (Err f) → first_line ls ≡ some (line_of f)
  told_some d = refused_line (first_line ls) (commands c) d.is

  -- a refusal stays one when further checks follow
  pub then_more : (ks : List (Option Line)) {f : Refusal} → Told c ls (Err f) → Told c (ls ++ ks) (Err f)
  then_more ks d = record { is = rw (first_early ls ks (told_some d)) refl }

  -- the check of plan v, of number p, is next
  module _ (p limit : ℕ) (v : List ℕ) {n : ℕ} (d : Told c ls (Ok n)) where
    abbrev here : Option Line
    here = first_line (plan_lines p limit n v)

    late : first_line (ls ++ plan_lines p limit (commands c) v) ≡ here
    late =
        first_late ls (plan_lines p limit (commands c) v) (told_none d)
        ∙ ap (λ k. first_line (plan_lines p limit k v)) (sym (told_commands d))

    pub then_refused : {f : Refusal} → refused (line_of f) ≡ or_else here (length v)
        → Told c (ls ++ plan_lines p limit (commands c) v) (Err f)
    then_refused t = record { is = rw (late ∙ refused_line here (length v) t) refl }

    pub then_passed : {m : ℕ} → given m ≡ or_else here (length v)
        → Told c (ls ++ plan_lines p limit (commands c) v) (Ok n)
    then_passed t = record { is = rw (late ∙ passed_line here (length v) t) (ap given (told_commands d)) }

-- a plan that passes its lines, where the lines before it do
module _ (c : List ℕ) where
  pub more_passes : (ls : List (Option Line)) (p limit : ℕ) (v : List ℕ)
      → first_line (ls ++ plan_lines p limit (commands c) v) ≡ none → (length v ≤ limit) × Passing (commands c) v
  more_passes ls p limit v e =
      (lines_pass p limit (commands c) v).0 (none_right ls (plan_lines p limit (commands c) v) e)

-- what holds where all lines pass, from what does where those before pass
module _ {c : List ℕ} {rows : List (List ℕ)} where
  pub read_told : {r : Result ℕ Refusal} → Reading c rows r → Told c (catalogue_lines c) r
  read_told d = record { is = d.answer }

  pub first_entered : {s r : Result ℕ Refusal} (v : List ℕ) → Reading c rows s → Told c (one_lines c v) r
      → OnePlan c v rows r
  first_entered v d t =
      record {
        told = t;
        passed = λ e.
            let k = none_left (catalogue_lines c) (plan_lines 1 plan_limit (commands c) v) e in
            let h = more_passes c (catalogue_lines c) 1 plan_limit v e in
            record { few = few_commands c k; table = d.conflicts k; passing = h.1; short = h.0 };
      }

  pub second_entered : {s r : Result ℕ Refusal} {v : List ℕ} (w : List ℕ) → OnePlan c v rows s
      → Told c (two_lines c v w) r → TwoPlans c v w rows r
  second_entered {v = v} w d t =
      record {
        told = t;
        passed = λ e.
            let q = d.passed (none_left (one_lines c v) (plan_lines 2 plan_limit (commands c) w) e) in
            let h = more_passes c (one_lines c v) 2 plan_limit w e in
            (q, record { few = q.few; table = q.table; passing = h.1; short = h.0 });
      }

  pub third_entered : {s r : Result ℕ Refusal} {v w : List ℕ} (u : List ℕ) → TwoPlans c v w rows s
      → Told c (three_lines c v w u) r → ThreePlans c v w u rows r
  third_entered {v = v} {w = w} u d t =
      record {
        told = t;
        passed = λ e. (
          d.passed (none_left (two_lines c v w) (plan_lines 3 lead_in_limit (commands c) u) e),
          more_passes c (two_lines c v w) 3 lead_in_limit u e,
        );
      }

-- for callers: what an answer tells of the lines
module _ {c : List ℕ} {ls : List (Option Line)} {P : Type 0} {r : Result ℕ Refusal} (d : Entered c ls P r) where
  pub entered_none : {n : ℕ} → r ≡ Ok n → first_line ls ≡ none
  entered_none e = told_none (subst (Told c ls) e d.told)

  pub entered_commands : {n : ℕ} → r ≡ Ok n → n ≡ commands c
  entered_commands e = told_commands (subst (Told c ls) e d.told)

  pub entered_some : {f : Refusal} → r ≡ Err f → first_line ls ≡ some (line_of f)
  entered_some e = told_some (subst (Told c ls) e d.told)

-- a check that passes is no refusal to pass on, and one that is refused is passed on as it is
pub passed_on_none : {A : Type 0} {r : Result ℕ Refusal} {n : ℕ} (t : Answer A) → r ≡ Ok n → SameRefusal r t
passed_on_none t e = λ f h. absurd (let z : ◌≡◌ {A = ℕ} 0 1 = cc in omega arith)

pub passed_on : {A : Type 0} {r : Result ℕ Refusal} {g : Refusal} → r ≡ Err g → SameRefusal {A = A} r (refused (line_of g))
passed_on {g = g} e = λ f h. let k : g ≡ f = cc in ap (λ x. refused (line_of x)) k
