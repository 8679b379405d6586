-- What the program's answer is worth: a verdict is exact, the number that it tells is that of the letters in either
-- core, and a text that says joined is never that of another verdict.
use Rattle.std.specs.Prelude.{ℕ, ◌≡◌, refl, Bool, true, false, List, [], ◌↔◌, length, get_or}
use Rattle.std.proofs.Common.{sym, ◌∙◌, ap, arith}
use Rattle.std.proofs.Math.Option.{Option, none, some}
use Rattle.theory_conjugacy.specs.Decision.{joined?}
use Rattle.spec.specs.Table.{Answer, given, first_line}
use Rattle.spec_laws.specs.SearchLaws.{given_not}
use Rattle.spec.specs.Catalogue.{commands}
use Rattle.spec.specs.Plan.{Passing}
use Rattle.spec.specs.Letters.{letters, alphabet}
use Rattle.spec.specs.Join.{Joins}
use Rattle.spec.specs.Calls.{core_form}
use Rattle.spec_laws.specs.TableLaws.{none-some}
use Rattle.spec_laws.specs.CallLaws.{answer_given}
use Rattle.spec_laws.specs.LoopLaws.{two_pass, some_joins}
use Rattle.spec_laws.specs.CoreFormLaws.{cores_long}
use Rattle.spec.specs.Framing.{well_framed, catalogue_of, plan1_of, plan2_of}
use Rattle.spec.specs.Listing.{joined, apart, Printed, printed}
use Rattle.spec.specs.Program.{program_lines, joined_step, loops_verdict, answer_step, program_answer}

-- what a verdict that is given tells
record Verdict (c v w : List ℕ) (o : Option ℕ) : Type 0 where
  passing : Passing (commands c) v × Passing (commands c) w
  decided : joined_step (joined? (alphabet c) (letters v) (letters w)) (length (core_form c v)) ≡ o

framed_given : (t : Bool) (a : Answer (Option ℕ)) {o : Option ℕ} → answer_step t a ≡ given o → a ≡ given o
framed_given true a e = e
framed_given false a e = absurd (given_not (sym e))

verdict_given : (s : List ℕ) (o : Option ℕ) → program_answer s ≡ given o
    → Verdict (catalogue_of s) (plan1_of s) (plan2_of s) o
verdict_given s o e =
    let c = catalogue_of s in
    let v = plan1_of s in
    let w = plan2_of s in
    let d = joined_step (joined? (alphabet c) (letters v) (letters w)) (length (core_form c v)) in
    let f = framed_given (well_framed s) (loops_verdict c v w) e in
    let (n, q) = answer_given (first_line (program_lines c v w)) d o f in
    record { passing = two_pass c v w [] n; decided = q }

step_true : (t : Bool) (n l : ℕ) → joined_step t n ≡ some l → (t ≡ true) × (l ≡ n)
step_true true n l e = (refl, cc)
step_true false n l e = absurd (none-some e)

-- the verdict is joined exactly if some u joins the plans
verdict_joined : {c v w : List ℕ} {o : Option ℕ} → Verdict c v w o
    → ((l : ℕ) × (o ≡ some l)) ↔ ((u : List ℕ) × Joins c v w u)
verdict_joined {c} {v} {w} d = (
  λ (l, e). (some_joins c v w d.passing
      ).0 (step_true (joined? (alphabet c) (letters v) (letters w)) (length (core_form c v)) l (d.decided ∙ e)).0,
  λ j. (
    length (core_form c v),
    sym d.decided ∙ ap (λ t. joined_step t (length (core_form c v))) ((some_joins c v w d.passing).1 j),
  ),
)

pub verdict_cores : (s : List ℕ) (l : ℕ) → program_answer s ≡ given (some l)
    → (l ≡ length (core_form (catalogue_of s) (plan1_of s))) × (l ≡ length (core_form (catalogue_of s) (plan2_of s)))
verdict_cores s l e =
    let c = catalogue_of s in
    let v = plan1_of s in
    let w = plan2_of s in
    let d = verdict_given s (some l) e in
    let k = (step_true (joined? (alphabet c) (letters v) (letters w)) (length (core_form c v)) l d.decided).1 in
    let (u, j) = (verdict_joined d).0 (l, refl) in
    (k, k ∙ cores_long c v w u d.passing.0 d.passing.1 j)

-- the first letter of the second line: j or a
joined_says : {l : ℕ} {text : List ℕ} → Printed (given (some l)) text → get_or text 8 0 ≡ 106
joined_says (printed (joined d)) = refl

apart_says : {text : List ℕ} → Printed (given none) text → get_or text 8 0 ≡ 97
apart_says (printed apart) = refl

pub verdict_printed : (s text : List ℕ) (o : Option ℕ) → program_answer s ≡ given o → Printed (program_answer s) text
    → ((l : ℕ) × Printed (given (some l)) text) ↔ ((u : List ℕ) × Joins (catalogue_of s) (plan1_of s) (plan2_of s) u)
verdict_printed s text o e p = (
  λ (l, q). (verdict_joined d).0 (told o (rw e at p) q),
  λ j. let (l, f) = (verdict_joined d).1 j in (l, rw (e, f) at p),
)
  where
    d : Verdict (catalogue_of s) (plan1_of s) (plan2_of s) o
    d = verdict_given s o e

    told : (o : Option ℕ) → Printed (given o) text → {l : ℕ} → Printed (given (some l)) text → (k : ℕ) × (o ≡ some k)
    told none p q = let z = apart_says p in let y = joined_says q in absurd (omega arith)
    told (some k) p q = (k, refl)
