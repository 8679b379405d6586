-- The measure of a text that lines 13 and 14 let pass decides lines 8 and 15.
use Rattle.std.specs.Prelude.{ℕ, ◌-◌, ◌≤◌, ◌<◌, ◌≡◌, List, [], ◌∷◌, length, drop}
use Rattle.std.proofs.Common.{arith, sym, ◌∙◌, ap, lt-ltb, le-ltb}
use Rattle.std.specs.Prelude as rust
use Rattle.std.proofs.Math.Option.{none, some}
use Rattle.std.proofs.lemmas.List.{length-map}
use Rattle.spec.specs.Table.{line, refused, given, or_else, first_line}
use Rattle.spec.specs.Calls.{plan_limit}
use Rattle.spec.specs.Notation.{tokens, token_of, size_of, first_above}
use Rattle.spec.specs.WriteOut.{items_of, above_line, written_line}
use Rattle.notation_laws.specs.Here.{Here}
use Rattle.notation_laws.specs.WholeLaws.{whole}
use Rattle.notation_laws.specs.AboveLaws.{above_within}
use Rattle.notation_measure.specs.declared.Measure.{Measure}
use Rattle.notation_measure.specs.Measured.{told_above, Measured}
use Rattle.notation_measure.specs.CappedLaws.{capped_same, capped_exact}
use Rattle.notation_write_out.specs.Scanned.{Scanned}

-- the text, as a sequence that stands at its start
abbrev pub all : {s : List ℕ} → Scanned s → Here (drop 0 (tokens s)) 8
all {s = s} g = whole s g.text g.shallow

module _ {n : ℕ} {s : List ℕ} (g : Scanned s) {r : Measure} (m : Measured n s 0 8 (all g) r) where
  -- a command above N
  module _ {l : ℕ} (e : r.above ≡ rust.Some l) where
    above_found : first_above n (items_of s) ≡ some l
    above_found = sym m.above ∙ ap told_above e

    pub above_left : l ≤ length s
    above_left = omega (arith, above_within n (all g).reads above_found, length-map s token_of)

    pub above_refused : refused (line 8 1 (length s - l))
        ≡ or_else (first_line (above_line n s ∷ written_line s ∷ [])) (size_of (items_of s))
    above_refused = rw above_found

  module _ (e : r.above ≡ rust.None) where
    none_found : first_above n (items_of s) ≡ none
    none_found = sym m.above ∙ ap told_above e

    pub long_refused : 1024 < r.size → refused (line 15 1 0)
        ≡ or_else (first_line (above_line n s ∷ written_line s ∷ [])) (size_of (items_of s))
    long_refused h =
        let size = size_of (items_of s) in
        let k : plan_limit < size = (capped_same size).1 (omega (arith, m.size)) in
        rw (none_found, lt-ltb plan_limit size k)

    pub short_passed : r.size ≤ 1024 → given r.size
        ≡ or_else (first_line (above_line n s ∷ written_line s ∷ [])) (size_of (items_of s))
    short_passed h =
        let size = size_of (items_of s) in
        let k : r.size ≡ size = m.size ∙ capped_exact size (omega (arith, m.size)) in
        rw (none_found, le-ltb plan_limit size (omega arith)) (ap given k)
