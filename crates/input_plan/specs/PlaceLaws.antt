-- The place that a search byte by byte finds, in the words of the table.
use Rattle.std.specs.Prelude.{ℕ, ◌<◌, ◌≡◌, Bool, List, length, get_or, position}
use Rattle.std.specs.List.{position_or_len}
use Rattle.std.proofs.Common.{arith, sym, lt-ltb, le-ltb}
use Rattle.std.proofs.Math.Decide.{dec_lt}
use Rattle.std.proofs.lemmas.List.Sums.{passes_at_first, fails_before_first}
use Rattle.spec.specs.Table.{first_of}
use Rattle.spec_laws.specs.SearchLaws.{search_all, search_found}
use Rattle.input_plan.specs.Place.{told_place}

pub found_place : (p : ℕ → Bool) (v : List ℕ)
    → told_place (position p v) ≡ first_of (λ i. p (get_or v i 0)) (length v) 0
found_place p v = go (dec_lt (position_or_len p v) (length v))
  where
    go : Dec (position_or_len p v < length v) → told_place (position p v) ≡ first_of (λ i. p (get_or v i 0)) (length v) 0
    go (yes h) =
        rw (lt-ltb (position_or_len p v) (length v) h)
        (sym (search_found (λ i. p (get_or v i 0)) (length v) 0 (record {
          low = omega arith;
          high = omega arith;
          passes = passes_at_first p v 0 h;
          before = λ j l k. fails_before_first p v j 0 k;
        })))
    go (no h) =
        rw (le-ltb (position_or_len p v) (length v) (omega arith))
        (sym (search_all (λ i. p (get_or v i 0)) (length v) 0 (λ i l k. fails_before_first p v i 0 (omega arith))))
