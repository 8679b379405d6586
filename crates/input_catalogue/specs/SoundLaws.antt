-- From each line that does not hold to what the next check may rely on.
use Rattle.std.specs.Prelude.{ℕ, ◌≤◌, ◌<◌, ◌≡◌, Bool, ◌||◌, List, length, ltb, eqb, Result, Ok}
use Rattle.std.proofs.Common.{arith, sym, ◌∙◌, ap, lt-ltb, le-ltb, ltb-false}
use Rattle.std.proofs.Math.Option.{Option, none, some}
use Rattle.std.proofs.lemmas.Bool.{eqb-false}
use Rattle.theory_words.specs.BoolLaws.{or_neither}
use Rattle.spec.specs.Table.{Line, line, refused, given, or_else}
use Rattle.spec_laws.specs.TableLaws.{none_at}
use Rattle.input_catalogue.specs.Checked.{told_checked}
use Rattle.spec_laws.specs.SearchLaws.{search-none, passed_line}
use Rattle.spec.specs.declared.Refusal.{Refusal}
use Rattle.spec.specs.Catalogue.{commands, records, head, head_place, command, next, next_place, command_place}
use Rattle.spec.specs.Catalogue.{or_if, size_line, count_line, records_line, head_line, next_line, record_line}
use Rattle.spec.specs.Layout.{layout}
use Rattle.input_layout.specs.Laid.{Framed}
use Rattle.spec_laws.specs.LayoutLaws.{size_wrong, size_right}
use Rattle.spec_laws.specs.CallLaws.{holds-none, or_none, counted_few}
use Rattle.input_catalogue.specs.Sound.{frame_line, Decides, Sound}

pub some-none : {A : Type 0} {a : A} → some a ≡ none → ⊥
some-none e = let z : ◌≡◌ {A = ℕ} 0 1 = cc in omega arith

module _ (c : List ℕ) where
  pub decides : {l : Option Line} {k : Line} (r : Result ℕ Refusal) → l ≡ some k → told_checked r ≡ refused k → Decides c l r
  decides r e t = t ∙ sym (ap (λ o. or_else o (commands c)) e)

  pub passes : {l : Option Line} {n : ℕ} → l ≡ none → n ≡ commands c → Decides c l (Ok n)
  passes e k = ap given k ∙ sym (ap (λ o. or_else o (commands c)) e)

  -- a line at the place that was computed for it
  pub decides_at : {l : Option Line} (k p : ℕ) {q : ℕ} (r : Result ℕ Refusal) → l ≡ some (line k p q) → {i : ℕ}
      → told_checked r ≡ refused (line k p i) → i ≡ q → Decides c l r
  decides_at k p r e t s = decides r e (t ∙ ap (λ (i : ℕ). refused (line k p i)) s)

  -- one check after another
  pub passed_none : (l : Option Line) {n : ℕ} → Decides c l (Ok n) → l ≡ none
  passed_none l d = passed_line l (commands c) d

  pub then_passed : (l k : Option Line) (r : Result ℕ Refusal) → l ≡ none → Decides c k r → Decides c (or_if l k) r
  then_passed l k r e d = d ∙ sym (ap (λ o. or_else (or_if o k) (commands c)) e)

  pub frame_wrong : (length c ≡ (layout c).size → ⊥) → frame_line c ≡ some (line 1 0 0)
  frame_wrong h = ap (λ o. or_if o (or_if (count_line c) (records_line c))) (size_wrong c h)

  module _ (s : length c ≡ (layout c).size) where
    frame_size : frame_line c ≡ or_if (count_line c) (records_line c)
    frame_size = ap (λ o. or_if o (or_if (count_line c) (records_line c))) ((size_right c).1 s)

    pub frame_many : 24 < commands c → frame_line c ≡ some (line 2 0 0)
    frame_many h = frame_size ∙ rw (lt-ltb 24 (commands c) h)

    pub frame_long : commands c ≤ 24 → 1024 < records c → frame_line c ≡ some (line 17 0 1)
    frame_long f h = frame_size ∙ rw (le-ltb 24 (commands c) f, lt-ltb 1024 (records c) h)

    pub frame_none : commands c ≤ 24 → records c ≤ 1024 → frame_line c ≡ none
    frame_none f h = frame_size ∙ rw (le-ltb 24 (commands c) f, le-ltb 1024 (records c) h)

-- the tests of lines 3 and 4
abbrev pub high_head : List ℕ → ℕ → Bool
high_head c a = ltb (records c) (head c a)

abbrev pub high_next : List ℕ → ℕ → Bool
high_next c j = ltb (records c) (next c j)

abbrev pub wrong_command : List ℕ → ℕ → Bool
wrong_command c j = eqb (command c j) 0 || ltb (commands c) (command c j)

module _ (c : List ℕ) where
  pub framed_from : frame_line c ≡ none → Framed c
  framed_from e =
      let (size, rest) = or_none (size_line c) (or_if (count_line c) (records_line c)) e in
      let (few, short) = or_none (count_line c) (records_line c) rest in
      record {
        size = (size_right c).0 size;
        few = counted_few c few;
        short = ltb-false 1024 (records c) (holds-none (ltb 1024 (records c)) (line 17 0 1) short);
      }

  module _ (f : Framed c) (eh : head_line c ≡ none) (en : next_line c ≡ none) (er : record_line c ≡ none) where
    named_from : (j : ℕ) → 1 ≤ j → j ≤ records c → (1 ≤ command c j) × (command c j ≤ commands c)
    named_from j l h =
        let w = search-none (wrong_command c) (records c) 1 (none_at 4 0 (command_place c) _ er) j l (omega arith) in
        let o = or_neither (eqb (command c j) 0) (ltb (commands c) (command c j)) w in
        let z = eqb-false (command c j) 0 o.0 in
        (omega arith, ltb-false (commands c) (command c j) o.1)

    pub sound_from : Sound c
    sound_from =
        record {
          framed = f;
          heads = λ a l h. ltb-false (records c) (head c a)
              (search-none (high_head c) (commands c) 1 (none_at 3 0 (head_place c) _ eh) a l (omega arith));
          nexts = λ j l h. ltb-false (records c) (next c j)
              (search-none (high_next c) (records c) 1 (none_at 3 0 (next_place c) _ en) j l (omega arith));
          named = named_from;
        }
