-- The lead-in check goes through its checks, then line 9 for its two areas.
use Rattle.std.specs.Prelude.{ℕ, ◌+◌, ◌<◌, ◌≤◌, ◌≡◌, refl, List, [], ◌∷◌, ◌++◌, length, Ok, Err}
use Rattle.std.proofs.Common.{◌∙◌, ap, arith, lt-ltb, le-ltb}
use Rattle.std.proofs.Math.Option.{Option, none, some}
use Rattle.spec.specs.Table.{Line, line, Answer, refused, first_line, line_of}
use Rattle.spec_laws.specs.TableLaws.{first_early, first_late}
use Rattle.spec.specs.declared.Refusal.{Refusal}
use Rattle.array_row.specs.AreaLaws.{starts_length, starts_area}
use Rattle.spec.specs.Letters.{normal_form}
use Rattle.spec.specs.declared.LeadIn.{LeadIn}
use Rattle.long_equal.specs.Comparing.{Comparable, Compared}
use Rattle.input_checks.specs.Entry.{ThreePlans, three_lines}
use Rattle.input_checks.specs.EntryLaws.{told_none, told_some}
use Rattle.spec.specs.Answers.{CheckedLeadIn, told_lead_in}
use Rattle.spec.specs.Calls.{area_line}
use Rattle.spec_laws.specs.CallLaws.{exact_alike}
use Rattle.spec.specs.Loops.{check_lines, check_answer, check_area0, check_area1}

-- the answer t and both areas afterwards
pub record Told (c v w u area0 area1 : List ℕ) (t : Answer CheckedLeadIn) (after0 after1 : List ℕ) : Type 0 where
  pub answer : t ≡ check_answer c v w u area0 area1
  pub bytes0 : after0 ≡ check_area0 c v w u area0 area1
  pub bytes1 : after1 ≡ check_area1 c v w u area0 area1

-- the lines behind those of the checks
abbrev last : List ℕ → List ℕ → List ℕ → List ℕ → List ℕ → List (Option Line)
last v w u area0 area1 =
    area_line 0 (length v + length u) area0 ∷ area_line 1 (length u + length w) area1 ∷ []

module _ {c v w : List ℕ} (u area0 area1 : List ℕ) where
  refused_by_lem : {t : Answer CheckedLeadIn} {l : Line} → first_line (check_lines c v w u area0 area1) ≡ some l
      → t ≡ refused l → Told c v w u area0 area1 t area0 area1
  refused_by_lem e k = record { answer = rw e k; bytes0 = rw e; bytes1 = rw e }

  pub check_refused : {rows : List (List ℕ)} {f : Refusal} → ThreePlans c v w u rows (Err f)
      → Told c v w u area0 area1 (refused (line_of f)) area0 area1
  check_refused d = refused_by_lem (first_early (three_lines c v w u) (last v w u area0 area1) (told_some d.told)) refl

  module _ {rows : List (List ℕ)} {n : ℕ} (d : ThreePlans c v w u rows (Ok n)) where
    late : first_line (check_lines c v w u area0 area1) ≡ first_line (last v w u area0 area1)
    late = first_late (three_lines c v w u) (last v w u area0 area1) (told_none d.told)

    pub check_small0 : {l : Line} → length area0 < length v + length u → l ≡ line 9 0 0
        → Told c v w u area0 area1 (refused l) area0 area1
    check_small0 h k = refused_by_lem (late ∙ rw (lt-ltb (length area0) (length v + length u) h)) (ap refused k)

    module _ (h : length v + length u ≤ length area0) where
      pub check_small1 : {l : Line} → length area1 < length u + length w → l ≡ line 9 0 1
          → Told c v w u area0 area1 (refused l) area0 area1
      check_small1 i k =
          refused_by_lem
          (late ∙ rw (le-ltb (length area0) (length v + length u) h, lt-ltb (length area1) (length u + length w) i))
          (ap refused k)

      module _ (i : length u + length w ≤ length area1) where
        pub check_comparable : Comparable c rows v w u area0 area1
        check_comparable =
            let ((p, q), (l, g)) = d.passed (told_none d.told) in
            record {
              first = record {
                table = p.table;
                few = p.few;
                left = p.passing;
                right = g;
                short = omega (arith, p.short);
                fits = h;
              };
              second = record {
                table = q.table;
                few = q.few;
                left = g;
                right = q.passing;
                short = omega (arith, q.short);
                fits = i;
              };
            }

        pub check_told : {b : LeadIn} {after0 after1 : List ℕ} → Compared c v w u area0 after0 area1 after1 b
            → Told c v w u area0 area1 (told_lead_in (Ok b)) after0 after1
        check_told {b} {after0} {after1} k =
            let s = exact_alike b.yes (normal_form c (v ++ u)) (normal_form c (u ++ w)) k.same in
            let z : first_line (check_lines c v w u area0 area1) ≡ none =
            late ∙ rw (le-ltb (length area0) (length v + length u) h, le-ltb (length area1) (length u + length w) i) in
            record {
              answer = rw (z, s, starts_length k.written0, starts_length k.written1);
              bytes0 = rw z (starts_area k.written0);
              bytes1 = rw z (starts_area k.written1);
            }
