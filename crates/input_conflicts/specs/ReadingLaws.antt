-- From the checks one after another to the whole table of lines 1 to 6 and 17.
use Rattle.std.specs.Prelude.{ℕ, ◌≡◌, refl, List, [], ◌∷◌, Result, Ok, Err}
use Rattle.std.proofs.Common.{sym, ◌∙◌, ap}
use Rattle.std.proofs.Math.Option.{Option, none, some}
use Rattle.spec.specs.Table.{Line, first_line, or_else}
use Rattle.spec_laws.specs.SearchLaws.{refused_line}
use Rattle.spec_laws.specs.CallLaws.{or_none}
use Rattle.spec.specs.declared.Refusal.{Refusal}
use Rattle.spec.specs.Catalogue.{commands, or_if, size_line, count_line, head_line, next_line, record_line, endless_line}
use Rattle.spec.specs.Catalogue.{records_line, own_line, catalogue_lines}
use Rattle.input_chains.specs.Conflicts.{Conflicts}
use Rattle.input_catalogue.specs.Sound.{frame_line, sound_line, Decides, Sound}
use Rattle.input_catalogue.specs.SoundLaws.{framed_from, sound_from, some-none, passed_none, then_passed}
use Rattle.input_conflicts.specs.Reading.{Reading}

regroup : (a b m h n r e o : Option Line)
    → or_if (or_if (or_if a (or_if b m)) (or_if h (or_if n r))) (or_if e o)
    ≡ first_line (a ∷ b ∷ m ∷ or_if h n ∷ r ∷ e ∷ o ∷ [])
regroup (some l) b m h n r e o = refl
regroup none (some l) m h n r e o = refl
regroup none none (some l) h n r e o = refl
regroup none none none (some l) n r e o = refl
regroup none none none none (some l) r e o = refl
regroup none none none none none (some l) e o = refl
regroup none none none none none none (some l) o = refl
regroup none none none none none none none (some l) = refl
regroup none none none none none none none none = refl

module _ (c : List ℕ) where
  -- lines 1, 2, 17 and 3 to 6
  abbrev pub all_line : Option Line
  all_line = or_if (sound_line c) (or_if (endless_line c) (own_line c))

  all_lines : all_line ≡ first_line (catalogue_lines c)
  all_lines =
      regroup (size_line c) (count_line c) (records_line c) (head_line c) (next_line c) (record_line c) (endless_line c)
      (own_line c)

  pub sound_none : sound_line c ≡ none → Sound c
  sound_none e =
      let f = or_none (frame_line c) (or_if (head_line c) (or_if (next_line c) (record_line c))) e in
      let h = or_none (head_line c) (or_if (next_line c) (record_line c)) f.1 in
      let n = or_none (next_line c) (record_line c) h.1 in
      sound_from c (framed_from c f.0) h.0 n.0 n.1

  -- the checks before the last pass
  pub sound_passed : {n : ℕ} → Decides c (sound_line c) (Ok n) → Sound c
  sound_passed d = sound_none (passed_none c (sound_line c) d)

  module _ {n m : ℕ} (s : Decides c (sound_line c) (Ok n)) (e : Decides c (endless_line c) (Ok m)) where
    last_decides : (r : Result ℕ Refusal) → Decides c (own_line c) r → Decides c all_line r
    last_decides r d =
        then_passed c (sound_line c) (or_if (endless_line c) (own_line c)) r (passed_none c (sound_line c) s)
        (then_passed c (endless_line c) (own_line c) r (passed_none c (endless_line c) e) d)

    answers : {rows : List (List ℕ)} (r : Result ℕ Refusal) → Decides c (own_line c) r
        → (all_line ≡ none → Conflicts c rows) → Reading c rows r
    answers r d f =
        record {
          answer = last_decides r d ∙ ap (λ o. or_else o (commands c)) all_lines;
          conflicts = λ z. f (all_lines ∙ z);
        }

    pub all_refused : {rows : List (List ℕ)} {f : Refusal} → Decides c (own_line c) (Err f) → Reading c rows (Err f)
    all_refused {f = f} d =
        answers (Err f) d
        (λ z. absurd (some-none (sym (refused_line all_line (commands c) (last_decides (Err f) d)) ∙ z)))

    pub all_passed : {rows : List (List ℕ)} {k : ℕ} → Decides c (own_line c) (Ok k)
        → (endless_line c ≡ none → Conflicts c rows) → Reading c rows (Ok k)
    all_passed {k = k} d f = answers (Ok k) d (λ z. f (passed_none c (endless_line c) e))
