-- Laws of the program's answer: its areas are large enough, and what the answers of the calls and the framing tell.
use Rattle.std.specs.Prelude.{ℕ, ◌+◌, ◌-◌, ◌≤◌, ◌≡◌, refl, Bool, List, [], ◌∷◌, length, take, drop, Ok, Some, None}
use Rattle.std.specs.Prelude as rust
use Rattle.std.proofs.Common.{arith, sym, ◌∙◌, ap, ap₂, subst, le-ltb}
use Rattle.std.proofs.Math.Option.{Option, none, some}
use Rattle.spec.specs.Table.{Line, line, line_of, Answer, refused, given, first_line, or_else}
use Rattle.spec_laws.specs.TableLaws.{left_out, none_left, none_right, none-some}
use Rattle.spec.specs.declared.Refusal.{Refusal}
use Rattle.theory_conjugacy.specs.Decision.{joined?}
use Rattle.spec.specs.Catalogue.{commands, catalogue_lines}
use Rattle.spec.specs.Plan.{plan_lines}
use Rattle.spec_laws.specs.PlanLaws.{lines_pass}
use Rattle.spec.specs.Letters.{letters, alphabet}
use Rattle.spec.specs.Answers.{told_loops, told_option, DecidedLoops}
use Rattle.spec.specs.Calls.{plan_limit, area_line, normal_form_lines, core_form, core_answer}
use Rattle.spec_laws.specs.SearchLaws.{given_not}
use Rattle.spec_laws.specs.LoopLaws.{lead_in_same}
use Rattle.spec_laws.specs.CodeLaws.{room_limit}
use Rattle.spec.specs.Loops.{loops_lines, lead_in_room, Looped, refuses, apart, joined}
use Rattle.spec.specs.declared.Loops.{Loops}
use Rattle.loops_framing.specs.Frame.{frame}
use Rattle.loops_framing.specs.FramingLaws.{badly_tells, well_tells, Cut, cut_catalogue, cut_plan1, cut_plan2}
use Rattle.loops_framing.specs.declared.Places.{Places}
use Rattle.loops.specs.CoreVerdict.{core_verdict}
use Rattle.spec.specs.Program.{core_lines, program_lines, joined_step, loops_verdict, program_answer}

-- Areas that are large enough

large : (need : ℕ) (area : List ℕ) → need ≤ length area → first_line (area_line 0 need area ∷ []) ≡ none
large need area h = rw (le-ltb (length area) need h)

module _ (c v : List ℕ) where
  plan1_short : first_line (core_lines c v) ≡ none → length v ≤ plan_limit
  plan1_short e =
      ((lines_pass 1 plan_limit (commands c) v
      ).0 (none_right (catalogue_lines c) (plan_lines 1 plan_limit (commands c) v) e)
      ).0

  core_enough : (area : List ℕ) → 1024 ≡ length area
      → first_line (normal_form_lines c v area) ≡ first_line (core_lines c v)
  core_enough area l =
      left_out (core_lines c v) (area_line 0 (length v) area ∷ [])
      (λ e. large (length v) area (omega (arith, plan1_short e)))

loops_enough : (c v w area : List ℕ) → 49152 ≡ length area
    → first_line (loops_lines c v w area) ≡ first_line (program_lines c v w)
loops_enough c v w area l =
    left_out (program_lines c v w) (area_line 0 (lead_in_room c v w) area ∷ [])
    (λ e. large (lead_in_room c v w) area (omega (arith, room_limit c v w e)))

-- What the core call's answer tells

some-given : {A : Type 0} (o : Option Line) (a : A) {l : A} → given l ≡ or_else o a → given (some l) ≡ or_else o (some a)
some-given none a e = cc
some-given (some k) a e = absurd (let z : ◌≡◌ {A = ℕ} 0 1 = cc in omega arith)

some-refused : {A : Type 0} (o : Option Line) (a : A) {l : Line} → refused l ≡ or_else o a
    → refused l ≡ or_else o (some a)
some-refused none a e = absurd (let z : ◌≡◌ {A = ℕ} 0 1 = cc in omega arith)
some-refused (some k) a e = cc

module _ (c v area : List ℕ) (h : 1024 ≡ length area) where
  told : {a : Answer ℕ} → a ≡ core_answer c v area → a ≡ or_else (first_line (core_lines c v)) (length (core_form c v))
  told t = t ∙ ap (λ o. or_else o (length (core_form c v))) (core_enough c v area h)

  pub core-length : {l : ℕ} → given l ≡ core_answer c v area → given (some l) ≡ core_verdict c v
  core-length t = some-given (first_line (core_lines c v)) (length (core_form c v)) (told t)

  pub core_refused : {l : Line} → refused l ≡ core_answer c v area → refused l ≡ core_verdict c v
  core_refused t = some-refused (first_line (core_lines c v)) (length (core_form c v)) (told t)

-- What the loops call's answer tells

-- nothing where the loops are apart, and n where they are joined
abbrev counted : Option ℕ → ℕ → Option ℕ
counted none n = none
counted (some l) n = some n

-- the call's answer, with n for the length of the lead-in and without the rounds
abbrev recount : Answer DecidedLoops → ℕ → Answer (Option ℕ)
recount (refused l) n = refused l
recount (given d) n = given (counted d.lead_in n)

module _ (c v w area : List ℕ) (h : 49152 ≡ length area) where
  first_as_call : {o : Option Line} → first_line (loops_lines c v w area) ≡ o → first_line (program_lines c v w) ≡ o
  first_as_call e = sym (loops_enough c v w area h) ∙ e

  verdict_as_call : {o : Option Line} {b : Bool} → first_line (loops_lines c v w area) ≡ o
      → joined? (alphabet c) (letters v) (letters w) ≡ b
      → loops_verdict c v w ≡ or_else o (joined_step b (length (core_form c v)))
  verdict_as_call e j = ap₂ (λ o b. or_else o (joined_step b (length (core_form c v)))) (first_as_call e) j

  recounted : {a : Answer DecidedLoops} {after : List ℕ} → Looped c v w area a after
      → recount a (length (core_form c v)) ≡ loops_verdict c v w
  recounted (refuses e) = sym (verdict_as_call e refl)
  recounted (apart e j) = sym (verdict_as_call e j)
  recounted (joined e j k) = sym (verdict_as_call e j)

  core_passes : {a : Answer DecidedLoops} {after : List ℕ} {l n : ℕ} → Looped c v w area a after
      → a ≡ given (record { lead_in = some l; rounds = n }) → first_line (core_lines c v) ≡ none
  core_passes (refuses e) k = absurd (given_not (sym k))
  core_passes (apart e j) k = absurd (none-some (lead_in_same k))
  core_passes (joined e j i) k =
      none_left (core_lines c v) (plan_lines 2 plan_limit (commands c) w) (first_as_call e)

  module _ {after : List ℕ} where
    pub loops_joined : {l n : ℕ} → Looped c v w area (given (record { lead_in = some l; rounds = n })) after
        → core_verdict c v ≡ loops_verdict c v w
    loops_joined d = ap (λ o. or_else o (some (length (core_form c v)))) (core_passes d refl) ∙ recounted d

    pub loops_apart : {n : ℕ} → Looped c v w area (given (record { lead_in = none; rounds = n })) after
        → given none ≡ loops_verdict c v w
    loops_apart d = recounted d

    pub loops-refused : {l : Line} → Looped c v w area (refused l) after → refused l ≡ loops_verdict c v w
    loops-refused d = recounted d

    -- what the lead-in is, once it is known
    pub decided_as : {d : Loops} {o : rust.Option ℕ} → Looped c v w area (told_loops (Ok d)) after → d.lead_in ≡ o
        → Looped c v w area (given (record { lead_in = told_option o; rounds = d.rounds })) after
    decided_as {d} k e =
        subst (λ x. Looped c v w area (given (record { lead_in = told_option x; rounds = d.rounds })) after) e k

-- What the framing tells

pub well_laid : {s : List ℕ} {p : Places} → Some p ≡ frame s → Cut s p
well_laid {s} {p} e = well_tells s p e

pub badly_answer : (s : List ℕ) (f : Refusal) → line_of f ≡ line 11 0 0 → None ≡ frame s
    → refused (line_of f) ≡ program_answer s
badly_answer s f k e = rw (badly_tells s e) (ap refused k)

pub well_answer : (s : List ℕ) (p : Places) (l : Cut s p)
    → loops_verdict (take p.first s) (take (p.second - (p.first + 2)) (drop (p.first + 2) s))
    (take (length s - (p.second + 2)) (drop (p.second + 2) s))
    ≡ program_answer s
well_answer s p l =
    rw (cut_catalogue s p l, cut_plan1 s p l, cut_plan2 s p l, l.well)
