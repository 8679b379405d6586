-- The loops call goes through its checks, then line 9.
use Rattle.std.specs.Prelude.{ℕ, ◌+◌, ◌*◌, ◌<◌, ◌≤◌, ◌≡◌, List, [], ◌∷◌, length, refl, Ok, Err}
use Rattle.std.proofs.Common.{sym, ◌∙◌, ap, subst, arith, mul-le-mul_left, lt-ltb, le-ltb}
use Rattle.std.proofs.Math.Option.{Option, none}
use Rattle.spec.specs.Table.{Line, line, refused, first_line, line_of}
use Rattle.spec_laws.specs.TableLaws.{first_early, first_late}
use Rattle.spec.specs.declared.Refusal.{Refusal}
use Rattle.conjugacy_of_parts.specs.declared.Outcome.{Outcome}
use Rattle.conjugacy_by_cores.specs.Join as Join
use Rattle.conjugacy_by_cores.specs.Join.{Plans, PlansRoom, PlansOutcome}
use Rattle.input_checks.specs.Entry.{TwoPlans, two_lines}
use Rattle.input_checks.specs.EntryLaws.{told_none, told_some, entered_commands}
use Rattle.spec.specs.Calls.{area_line}
use Rattle.spec.specs.Loops.{Looped, refuses, apart, joined, loops_lines, lead_in_room}
use Rattle.conjugacy_of_parts.specs.Outcomes.{told_outcome}

-- the line behind those of the checks
abbrev last : List ℕ → List ℕ → List ℕ → List ℕ → List (Option Line)
last c v w area = area_line 0 (lead_in_room c v w) area ∷ []

module _ {c v w : List ℕ} {rows : List (List ℕ)} (area : List ℕ) where
  pub loops-refused : {f : Refusal} → TwoPlans c v w rows (Err f) → Looped c v w area (refused (line_of f)) area
  loops-refused d = refuses (first_early (two_lines c v w) (last c v w area) (told_some d.told))

  module _ {n : ℕ} (d : TwoPlans c v w rows (Ok n)) where
    pub loops_plans : Plans c rows v w
    loops_plans = let p = d.passed (told_none d.told) in record { first = p.0; second = p.1 }

    -- the room that is asked for is a small number
    pub loops_fits : n * (length v + length w) ≤ 49152
    loops_fits =
        let p = d.passed (told_none d.told) in
        let h : n * (length v + length w) ≤ n * 2048 = mul-le-mul_left n (omega (arith, p.0.short, p.1.short)) in
        omega (arith, entered_commands d refl, p.0.few)

    room : lead_in_room c v w ≡ n * (length v + length w)
    room = ap (λ k. k * (length v + length w)) (sym (entered_commands d refl))

    pub loops_room : n * (length v + length w) ≤ length area → PlansRoom c v w n area
    loops_room h = record { many = entered_commands d refl; form = rw room h }

    pub loops_small : {l : Line} → length area < n * (length v + length w) → l ≡ line 9 0 0
        → Looped c v w area (refused l) area
    loops_small {l} h k =
        let q : length area < lead_in_room c v w = rw room h in
        subst (λ x. Looped c v w area (refused x) area) (sym k)
        (refuses (first_late (two_lines c v w) (last c v w area) (told_none d.told)
        ∙ rw (lt-ltb (length area) (lead_in_room c v w) q)))

    pub loops_none : n * (length v + length w) ≤ length area → first_line (loops_lines c v w area) ≡ none
    loops_none h =
        first_late (two_lines c v w) (last c v w area) (told_none d.told)
        ∙ rw (le-ltb (length area) (lead_in_room c v w) (loops_room h).form)

    pub loops_told : {o : Outcome} {after : List ℕ} → n * (length v + length w) ≤ length area
        → PlansOutcome c v w area o after
        → Looped c v w area (told_outcome o) after
    loops_told h (Join.joined t l) = joined (loops_none h) t l
    loops_told h (Join.apart t) = apart (loops_none h) t
