-- Laws of the definitions of the loops call and the lead-in check: what no refusal tells of the plans, and that the
-- decision is exact over plans of bytes.
use Rattle.std.specs.Prelude.{ℕ, ◌+◌, ◌≡◌, true, false, List, [], ◌∷◌, ◌++◌, ◌↔◌, length}
use Rattle.std.proofs.Common.{ap}
use Rattle.std.proofs.Math.Option.{Option, none}
use Rattle.spec.specs.Table.{Line, given, first_line}
use Rattle.spec_laws.specs.TableLaws.{none_left, none_right}
use Rattle.theory_conjugacy.specs.Decision.{joined?}
use Rattle.theory_conjugacy.specs.DecisionLaws.{joined_exact, apart_exact}
use Rattle.spec.specs.Catalogue.{commands, catalogue_lines}
use Rattle.spec.specs.Plan.{plan_lines, Passing}
use Rattle.spec_laws.specs.PlanLaws.{lines_pass}
use Rattle.spec.specs.Letters.{letters, alphabet}
use Rattle.spec.specs.Join.{Joins}
use Rattle.spec_laws.specs.JoinLaws.{joins_words, joins_passing, words_join}
use Rattle.spec_laws.specs.StepLaws.{kept}
use Rattle.spec.specs.Answers.{DecidedLoops}
use Rattle.spec.specs.Calls.{plan_limit, area_line}
use Rattle.spec_laws.specs.CallLaws.{answer_given}
use Rattle.spec.specs.Loops.{lead_in_room, loops_lines, lead_in_limit, check_lines}

-- two plans that no line refuses
pub two_pass : (c v w : List ℕ) (ls : List (Option Line))
    → first_line (catalogue_lines c ++ plan_lines 1 plan_limit (commands c) v ++ plan_lines 2 plan_limit (commands c) w ++ ls)
    ≡ none → Passing (commands c) v × Passing (commands c) w
two_pass c v w ls e = (
  ((lines_pass 1 plan_limit n v).0 (none_right (catalogue_lines c) (plan_lines 1 plan_limit n v) early)).1,
  ((lines_pass 2 plan_limit n w
      ).0 (none_right (catalogue_lines c ++ plan_lines 1 plan_limit n v) (plan_lines 2 plan_limit n w) late)
      ).1,
)
  where
    n : ℕ
    n = commands c

    late : first_line (catalogue_lines c ++ plan_lines 1 plan_limit n v ++ plan_lines 2 plan_limit n w) ≡ none
    late = none_left (catalogue_lines c ++ plan_lines 1 plan_limit n v ++ plan_lines 2 plan_limit n w) ls e

    early : first_line (catalogue_lines c ++ plan_lines 1 plan_limit n v) ≡ none
    early = none_left (catalogue_lines c ++ plan_lines 1 plan_limit n v) (plan_lines 2 plan_limit n w) late

pub loops_pass : (c v w area : List ℕ) → first_line (loops_lines c v w area) ≡ none
    → Passing (commands c) v × Passing (commands c) w
loops_pass c v w area e = two_pass c v w (area_line 0 (lead_in_room c v w) area ∷ []) e

-- answers that are the same tell the same of the lead-in
pub lead_in_same : {a b : DecidedLoops} → given a ≡ given b → a.lead_in ≡ b.lead_in
lead_in_same {a} {b} e = ap (λ x. x.lead_in) (answer_given none a b e).1

-- the decision is exact over plans of bytes
pub some_joins : (c v w : List ℕ) → Passing (commands c) v × Passing (commands c) w
    → (joined? (alphabet c) (letters v) (letters w) ≡ true) ↔ ((u : List ℕ) × Joins c v w u)
some_joins c v w p = (
  λ d. let (u, e) = (joined_exact (alphabet c) (letters v) (letters w)).0 d in
      (kept c u, words_join c v w u p.0 p.1 e),
  λ (u, j). (joined_exact (alphabet c) (letters v) (letters w)
      ).1 (letters u, (joins_words c v w u p.0 p.1 (joins_passing c v w u j)).0 j),
)

pub none_joins : (c v w : List ℕ) → Passing (commands c) v × Passing (commands c) w
    → joined? (alphabet c) (letters v) (letters w) ≡ false → (u : List ℕ) → ¬ Joins c v w u
none_joins c v w p d u j =
    (apart_exact (alphabet c) (letters v) (letters w)
    ).0 d (letters u) ((joins_words c v w u p.0 p.1 (joins_passing c v w u j)).0 j)

-- three plans that no line refuses
pub check_pass : (c v w u area0 area1 : List ℕ) → first_line (check_lines c v w u area0 area1) ≡ none
    → (Passing (commands c) v × Passing (commands c) w) × Passing (commands c) u
check_pass c v w u area0 area1 e = (
  two_pass c v w (plan_lines 3 lead_in_limit n u) early,
  ((lines_pass 3 lead_in_limit n u).0 (none_right ls (plan_lines 3 lead_in_limit n u) early)).1,
)
  where
    n : ℕ
    n = commands c

    ls : List (Option Line)
    ls = catalogue_lines c ++ plan_lines 1 plan_limit n v ++ plan_lines 2 plan_limit n w

    early : first_line (ls ++ plan_lines 3 lead_in_limit n u) ≡ none
    early =
        none_left (ls ++ plan_lines 3 lead_in_limit n u)
        (area_line 0 (length v + length u) area0 ∷ area_line 1 (length u + length w) area1 ∷ []) e
