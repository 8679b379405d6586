-- A call that writes a form of its plan goes through its checks, then line 9 for its area and line 12 for its second.
use Rattle.std.specs.Prelude.{ℕ, ◌<◌, ◌≤◌, ◌≡◌, refl, List, [], ◌∷◌, length, Ok, Err}
use Rattle.std.proofs.Common.{◌∙◌, ap, lt-ltb, le-ltb}
use Rattle.std.proofs.Math.Option.{Option, none, some}
use Rattle.spec.specs.Table.{Line, line, Answer, refused, given, first_line, or_else, line_of}
use Rattle.spec_laws.specs.TableLaws.{first_early, first_late}
use Rattle.spec.specs.declared.Refusal.{Refusal}
use Rattle.spec.specs.Answers.{FormCounts}
use Rattle.array_row.specs.Area.{StartsWith}
use Rattle.array_row.specs.AreaLaws.{starts_length, starts_area}
use Rattle.input_checks.specs.Entry.{OnePlan, one_lines}
use Rattle.input_checks.specs.EntryLaws.{told_none, told_some}
use Rattle.spec.specs.Calls.{plan_limit, area_line, area_after, normal_form_lines, pairs_line, paired_lines}
use Rattle.spec_laws.specs.PairedLaws.{paired_alone}
use Rattle.piling_pairs.specs.Pairing.{PairsOf}
use Rattle.call_forms.specs.Forming.{WrittenForm, length_alone}

-- the lines behind those of the checks
abbrev last : List ℕ → List ℕ → List ℕ → List (Option Line)
last v area pairs = area_line 0 (length v) area ∷ pairs_line (length v) pairs ∷ []

-- f is the form that is wanted
module _ {c v : List ℕ} (f : List ℕ → List ℕ → List ℕ) (area pairs : List ℕ) where
  refused_by_lem : {t : Answer FormCounts} {l : Line} → first_line (paired_lines c v area pairs) ≡ some l → t ≡ refused l
      → WrittenForm f c v area pairs t area pairs
  refused_by_lem e k = record { answer = rw e k; bytes = rw e; numbered = rw e }

  pub form_refused : {rows : List (List ℕ)} {g : Refusal} → OnePlan c v rows (Err g)
      → WrittenForm f c v area pairs (refused (line_of g)) area pairs
  form_refused d = refused_by_lem (first_early (one_lines c v) (last v area pairs) (told_some d.told)) refl

  module _ {rows : List (List ℕ)} {n : ℕ} (d : OnePlan c v rows (Ok n)) where
    late : first_line (paired_lines c v area pairs) ≡ first_line (last v area pairs)
    late = first_late (one_lines c v) (last v area pairs) (told_none d.told)

    pub form_small : {l : Line} → length area < length v → l ≡ line 9 0 0
        → WrittenForm f c v area pairs (refused l) area pairs
    form_small h k = refused_by_lem (late ∙ rw (lt-ltb (length area) (length v) h)) (ap refused k)

    pub pairs_small : {l : Line} → length v ≤ length area → length pairs < length v → l ≡ line 12 0 1
        → WrittenForm f c v area pairs (refused l) area pairs
    pairs_small h i k =
        refused_by_lem (late ∙ rw (le-ltb (length area) (length v) h, lt-ltb (length pairs) (length v) i)) (ap refused k)

    pub form_written : {k m : ℕ} {after numbers : List ℕ} → length v ≤ length area → length v ≤ length pairs
        → StartsWith (f c v) area after k → PairsOf c v pairs numbers m
        → WrittenForm f c v area pairs (given (record { length = k; pairs = m })) after numbers
    form_written h i s p =
        let z : first_line (paired_lines c v area pairs) ≡ none =
        late ∙ rw (le-ltb (length area) (length v) h, le-ltb (length pairs) (length v) i) in
        record {
          answer = rw (z, starts_length s, p.count);
          bytes = rw z (starts_area s);
          numbered = rw z p.numbers;
        }

alone : (o : Option Line) (k : FormCounts) → length_alone (or_else o k) ≡ or_else o k.length
alone none k = refl
alone (some l) k = refl

-- with a second area for the longest plan, the length and the first area are those of a call without
module _ {f : List ℕ → List ℕ → List ℕ} {c v area pairs : List ℕ} {t : Answer FormCounts} {after numbers : List ℕ}
    (w : WrittenForm f c v area pairs t after numbers) (h : plan_limit ≤ length pairs) where
  pub alone_answer : length_alone t ≡ or_else (first_line (normal_form_lines c v area)) (length (f c v))
  alone_answer =
      ap length_alone w.answer
      ∙ alone (first_line (paired_lines c v area pairs)) _
      ∙ ap (λ o. or_else o (length (f c v))) (paired_alone c v area pairs h)

  pub alone_bytes : after ≡ area_after (first_line (normal_form_lines c v area)) (f c v) area
  alone_bytes = w.bytes ∙ ap (λ o. area_after o (f c v) area) (paired_alone c v area pairs h)
