-- Laws of the layout of a catalogue: which edition its first byte tells, and that line 1 compares its length with the
-- size of that edition.
use Rattle.std.specs.Prelude.{ℕ, ◌≤◌, ◌<◌, ◌≡◌, Bool, true, false, not, ◌||◌, List, ◌↔◌, length, ltb, eqb}
use Rattle.std.proofs.Common.{arith, sym, ap, le-leb, le-ltb, eq-eqb, ne_eqb, eqb-true}
use Rattle.std.proofs.Math.Bool.{or-true}
use Rattle.std.proofs.Math.Option.{none, some}
use Rattle.std.proofs.lemmas.Bool.{lt-leb, not-false}
use Rattle.theory_words.specs.BoolLaws.{or_neither}
use Rattle.spec.specs.Table.{line}
use Rattle.spec.specs.Layout.{byte_at, first_edition, second_edition, layout_step, is_second, layout}
use Rattle.spec.specs.Catalogue.{size_line}
use Rattle.spec_laws.specs.CallLaws.{holds-none}

module _ (c : List ℕ) where
  pub first_layout : byte_at c 0 < 128 → first_edition c ≡ layout c
  first_layout h = ap (λ (t : Bool). layout_step t c) (sym (lt-leb 128 (byte_at c 0) h))

  pub second_layout : 128 ≤ byte_at c 0 → second_edition c ≡ layout c
  second_layout h = ap (λ (t : Bool). layout_step t c) (sym (le-leb 128 (byte_at c 0) h))

  -- the bytes before the heads are some, and no more than all
  start_step : (t : Bool) → (1 ≤ (layout_step t c).start) × ((layout_step t c).start ≤ (layout_step t c).size)
  start_step false = (omega arith, omega arith)
  start_step true = (omega arith, omega arith)

  pub start_within : (1 ≤ (layout c).start) × ((layout c).start ≤ (layout c).size)
  start_within = start_step (is_second c)

  pub size_wrong : (length c ≡ (layout c).size → ⊥) → size_line c ≡ some (line 1 0 0)
  size_wrong h = rw (ne_eqb (length c) (layout c).size h, or-true (ltb (length c) (layout c).start))

  pub size_right : (size_line c ≡ none) ↔ (length c ≡ (layout c).size)
  size_right = (there, back)
    where
      short : Bool
      short = ltb (length c) (layout c).start

      same : Bool
      same = eqb (length c) (layout c).size

      there : size_line c ≡ none → length c ≡ (layout c).size
      there e =
          let n = or_neither short (not same) (holds-none (short || not same) (line 1 0 0) e) in
          eqb-true (length c) (layout c).size (not-false same n.1)

      back : length c ≡ (layout c).size → size_line c ≡ none
      back e =
          let l : (layout c).start ≤ length c = rw e start_within.1 in
          rw (le-ltb (length c) (layout c).start l, eq-eqb (length c) (layout c).size e)
