-- What a call that writes a form of its plan answers, with the pairs that cancelled, and its length alone.
use Rattle.std.specs.Prelude.{ℕ, ◌≡◌, List, length}
use Rattle.spec.specs.Answers.{FormCounts}
use Rattle.spec.specs.Pairs.{reading, pair_numbers}
use Rattle.spec.specs.Calls.{paired_lines, area_after}
use Rattle.spec.specs.Table.{Answer, refused, given, first_line, or_else}

-- the answer t and both areas afterwards where the form f of a plan is to be written
pub record WrittenForm (f : List ℕ → List ℕ → List ℕ) (c v area pairs : List ℕ) (t : Answer FormCounts)
    (after numbers : List ℕ) : Type 0 where
  pub answer : t ≡ or_else (first_line (paired_lines c v area pairs))
      (record { length = length (f c v); pairs = length (reading c v).pairs })
  pub bytes : after ≡ area_after (first_line (paired_lines c v area pairs)) (f c v) area
  pub numbered : numbers ≡ area_after (first_line (paired_lines c v area pairs)) (pair_numbers c v) pairs

-- an answer without its pairs
abbrev pub length_alone : Answer FormCounts → Answer ℕ
length_alone (given k) = given k.length
length_alone (refused l) = refused l
