-- From a piling to the form that is wanted: what is left of it can be read off, and the bytes read are the form.
use Rattle.std.specs.Prelude.{ℕ, ◌≤◌, ◌*◌, ◌≡◌, refl, Bool, true, false, List, [], ◌∷◌, reverse, length}
use Rattle.std.proofs.Common.{sym, subst, arith}
use Rattle.std.proofs.lemmas.List.{length-reverse}
use Rattle.theory_words.specs.Filter.{filter}
use Rattle.theory_words.specs.Reduce.{reduce}
use Rattle.theory_words.specs.ReduceLaws.{reduce_back_reduced}
use Rattle.theory_words.specs.Normal.{lex, nf}
use Rattle.theory_words.specs.NormalLaws.{lex_sorts, sorts_nf}
use Rattle.theory_conjugacy.specs.Core.{peels, core}
use Rattle.array_row.specs.Area.{StartsWith, ReadOff}
use Rattle.array_row.specs.RowLaws.{appended_start}
use Rattle.spec.specs.Letters.{letters, alphabet, normal_form}
use Rattle.spec.specs.Pairs.{reading, read_from}
use Rattle.array_counts.specs.Blank.{blank_heights}
use Rattle.piling_stacks.specs.Piling.{Piled}
use Rattle.piling_stacks.specs.Pile.{reduced}
use Rattle.piling_stacks.specs.PileLaws.{reduced-length}
use Rattle.piling_pairs.specs.Pairing.{PairsOf}
use Rattle.piling_read.specs.Reading.{Readable}
use Rattle.piling_core.specs.Peeling.{Peelable}
use Rattle.piling_core.specs.PeeledLaws.{piled_peelable, peeled_normal}
use Rattle.input_checks.specs.Passed.{Passed}
use Rattle.piling_equal.specs.PassedLaws.{passed_lettered, reduced_word}
use Rattle.spec.specs.Calls.{core_form}
use Rattle.piling_form.specs.Coring.{form, Whole, Remains, peeled, whole}

module _ {c : List ℕ} {conflicts : List (List ℕ)} {plan : List ℕ} (p : Passed c conflicts plan) where
  pub passed_peelable : {rows : List (List ℕ)} {heights at : List ℕ} (lead : List ℕ)
      → Piled c rows heights (reduced c plan) → at ≡ blank_heights → length plan ≤ 2 * length lead
      → Peelable c conflicts rows heights at (reverse (reduced c plan)) lead
  passed_peelable {rows} {heights} lead q e l =
      subst (λ a. Peelable c conflicts rows heights a (reverse (reduced c plan)) lead) (sym e)
      (piled_peelable lead p.table q (passed_lettered p) (omega (arith, reduced-length c plan)))

  pub passed_whole : {rows : List (List ℕ)} {heights at : List ℕ} → Piled c rows heights (reduced c plan)
      → at ≡ blank_heights → Whole c conflicts rows heights at (reverse (reduced c plan))
  passed_whole q e lead l = passed_peelable lead q e (omega (arith, l, p.short))

  pub remains_readable : {rows : List (List ℕ)} {heights at : List ℕ} {b : Bool} {z : List ℕ} (area : List ℕ)
      → Remains c rows (reverse (reduced c plan)) heights at b z → length plan ≤ length area
      → Readable c conflicts rows heights at z area
  remains_readable area (peeled q) l =
      record {
        table = p.table;
        left = q.left;
        fits = omega (arith, q.count, length-reverse (reduced c plan), reduced-length c plan);
      }
  remains_readable area (whole q) l =
      record {
        table = p.table;
        left = q;
        fits = omega (arith, length-reverse (reduced c plan), reduced-length c plan);
      }

module _ (c plan : List ℕ) where
  -- read off whole, it is the normal form
  read_normal : lex (alphabet c) (length (reverse (reduced c plan))) (reverse (reduced c plan)) ≡ normal_form c plan
  unfolding normal_form
  read_normal =
      sorts_nf (alphabet c) (lex_sorts (alphabet c) (length (reverse (reduced c plan))) (reverse (reduced c plan)) refl)
      (reduce_back_reduced (alphabet c) (letters plan)) (reduced_word c plan)

-- what remains, read off, is the form that is wanted
pub remains_form : {c : List ℕ} (plan : List ℕ) {rows : List (List ℕ)} {heights at : List ℕ} {b : Bool}
    {z area area' : List ℕ} {n : ℕ} → Remains c rows (reverse (reduced c plan)) heights at b z
    → ReadOff c z area area' n → StartsWith (form b c plan) area area' n
unfolding core_form
remains_form {c} plan (peeled q) o =
    rw (peeled_normal q (reduce_back_reduced (alphabet c) (letters plan)) (letters plan) (reduced_word c plan)) at o
remains_form {c} plan (whole q) o = rw (read_normal c plan) at o

-- a plan with no byte has an empty form, and no pairs

pub empty_form : (b : Bool) (c plan : List ℕ) {area : List ℕ} → length plan ≡ 0 → StartsWith (form b c plan) area area 0
unfolding core_form core peels normal_form letters filter nf reduce lex
empty_form true c [] {area} e = appended_start area 0
empty_form false c [] {area} e = appended_start area 0
empty_form b c (x ∷ plan) e = absurd (omega arith)

pub empty_pairs : (c plan : List ℕ) {pairs : List ℕ} → length plan ≡ 0 → PairsOf c plan pairs pairs 0
unfolding reading read_from
empty_pairs c [] e = record { count = refl; numbers = refl }
empty_pairs c (x ∷ plan) e = absurd (omega arith)
