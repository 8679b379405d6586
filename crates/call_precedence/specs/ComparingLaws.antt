-- The precedence check goes through its checks, then line 16.
use Rattle.std.specs.Prelude.{ℕ, ◌≡◌, Bool, List, [], ◌∷◌, length, take, refl, Ok, Err, Some, None}
use Rattle.std.proofs.Common.{sym, ◌∙◌, ap, subst}
use Rattle.std.proofs.Math.Option.{Option, none, some}
use Rattle.spec.specs.Table.{Line, line, refused, given, first_line, line_of}
use Rattle.spec_laws.specs.TableLaws.{first_early, first_late}
use Rattle.spec.specs.declared.Refusal.{Refusal}
use Rattle.spec.specs.Letters.{normal_form}
use Rattle.spec.specs.Precedence.{places_line, all_lead, precedence_lines, precedence_answer}
use Rattle.input_checks.specs.Passed as Checks
use Rattle.input_checks.specs.Entry.{OnePlan, one_lines}
use Rattle.input_checks.specs.EntryLaws.{told_none, told_some}
use Rattle.array_row.specs.Area.{StartsWith}
use Rattle.array_row.specs.AreaLaws.{starts_length, starts_take, starts_count}
use Rattle.piling_form.specs.FormLaws.{form_lettered}
use Rattle.schedule_chains.specs.Following.{Followable}
use Rattle.schedule_precedence.specs.Searching.{FirstPair, found, nowhere}

-- where the search for a faulty pair has ended
module _ {l : ℕ} {ns : List ℕ} where
  pub pair_found : {p : ℕ} → FirstPair l ns (Some p) → places_line l ns ≡ some (line 16 0 p)
  pair_found (found h e) = e

  pub none_found : FirstPair l ns None → places_line l ns ≡ none
  none_found (nowhere e) = e

-- the normal form is written, and what was found of places in it holds of it
pub form_ordered : {c : List ℕ} {conflicts : List (List ℕ)} {v area after : List ℕ} {k : ℕ}
    → Checks.Passed c conflicts v → StartsWith (normal_form c v) area after k → Followable c (take k after) conflicts
form_ordered {c} {conflicts} p s =
    subst (λ (z : List ℕ). Followable c z conflicts) (sym (starts_take s))
    (record { letters = form_lettered p; table = p.table })

module _ {x area after : List ℕ} {k : ℕ} (s : StartsWith x area after k) (ns : List ℕ) {o : Option Line}
    (e : places_line k ns ≡ o) where
  pub places_form : places_line (length x) ns ≡ o
  places_form = ap (λ (n : ℕ). places_line n ns) (sym (starts_length s)) ∙ e

  pub places_area : places_line (length (take k after)) ns ≡ o
  places_area = ap (λ (n : ℕ). places_line n ns) (sym (starts_count s)) ∙ e

-- the line behind those of the checks
abbrev last : List ℕ → List ℕ → List ℕ → List (Option Line)
last c v ns = places_line (length (normal_form c v)) ns ∷ []

module _ {c v : List ℕ} {rows : List (List ℕ)} (ns : List ℕ) where
  pub check_refused : {f : Refusal} → OnePlan c v rows (Err f) → refused (line_of f) ≡ precedence_answer c v ns
  check_refused d = rw (first_early (one_lines c v) (last c v ns) (told_some d.told)) refl

  module _ {n : ℕ} (d : OnePlan c v rows (Ok n)) where
    late : first_line (precedence_lines c v ns) ≡ first_line (last c v ns)
    late = first_late (one_lines c v) (last c v ns) (told_none d.told)

    pub pair_refused : {l m : Line} → places_line (length (normal_form c v)) ns ≡ some m → l ≡ m
        → refused l ≡ precedence_answer c v ns
    pair_refused q k = rw (late, q, k)

    pub pairs_compared : {b : Bool} {z : List ℕ} → places_line (length (normal_form c v)) ns ≡ none
        → z ≡ normal_form c v → b ≡ all_lead c z ns → given b ≡ precedence_answer c v ns
    pairs_compared q s k = rw (late, q) (ap given (k ∙ ap (λ (x : List ℕ). all_lead c x ns) s))
