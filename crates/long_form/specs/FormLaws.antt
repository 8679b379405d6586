-- From the reduced stacks to the normal form: they can be read off, and the letters read are the normal form.
use Rattle.std.specs.Prelude.{ℕ, ◌≤◌, List, length}
use Rattle.std.proofs.Common.{arith}
use Rattle.theory_words.specs.Normal.{nf}
use Rattle.theory_words.specs.Reduce.{reduce}
use Rattle.theory_words.specs.ReduceLaws.{reduce-length}
use Rattle.array_row.specs.Area.{StartsWith, ReadOff}
use Rattle.spec.specs.Letters.{letters, alphabet, normal_form}
use Rattle.long_reduction.specs.Reducing.{Reducing}
use Rattle.long_read.specs.Reading.{Readable}
use Rattle.long_stacks.specs.declared.LinkedStacks.{LinkedStacks}

pub form_readable : {n : ℕ} {c : List ℕ} {conflicts : List (List ℕ)} {word area : List ℕ} {s : LinkedStacks n}
    → length (letters word) ≤ length area → Reducing c conflicts word s 0
    → Readable c conflicts word s (reduce (alphabet c) (letters word)) area
form_readable {c} {word = word} l r = record {
  table = r.given.table;
  stacks = r.stacks;
  fits = omega (arith, reduce-length (alphabet c) (letters word));
}

pub form_written : (c word : List ℕ) {before after : List ℕ} {r : ℕ}
    → ReadOff c (reduce (alphabet c) (letters word)) before after r → StartsWith (normal_form c word) before after r
unfolding normal_form nf
form_written c word o = o
