-- What is known of a catalogue and a text with which nothing is wrong.
use Rattle.std.specs.Prelude.{ℕ, ◌-◌, ◌≤◌, ◌≡◌, List, [], ◌∷◌, length, ltb}
use Rattle.std.proofs.Math.Option.{Option, none}
use Rattle.std.proofs.Common.{ltb-false}
use Rattle.spec.specs.Table.{Line, line}
use Rattle.spec.specs.Catalogue.{commands, catalogue_lines}
use Rattle.spec.specs.Calls.{plan_limit}
use Rattle.spec.specs.Notation.{size_of, first_above}
use Rattle.spec.specs.WriteOut.{items_of, text_line, nesting_line, above_line, written_line, text_fault}
use Rattle.spec_laws.specs.TableLaws.{none_right, none_holds, none_at}
use Rattle.spec_laws.specs.CallLaws.{holds-none}

module _ (c s : List ℕ) (e : text_fault c s ≡ none) where
  abbrev own : List (Option Line)
  own = text_line s ∷ nesting_line s ∷ above_line (commands c) s ∷ written_line s ∷ []

  lines : (text_line s ≡ none) × (nesting_line s ≡ none) × (above_line (commands c) s ≡ none) × (written_line s ≡ none)
  lines =
      let (text, (nesting, (above, (long, end)))) = (none_holds own).0 (none_right (catalogue_lines c) own e) in
      (text, nesting, above, long)

  pub no_text_line : text_line s ≡ none
  no_text_line = lines.0

  pub no_nesting_line : nesting_line s ≡ none
  no_nesting_line = lines.1

  pub none_above : first_above (commands c) (items_of s) ≡ none
  none_above = none_at 8 1 (λ l. length s - l) (first_above (commands c) (items_of s)) lines.2

  pub short : size_of (items_of s) ≤ plan_limit
  short =
      let size = size_of (items_of s) in
      ltb-false plan_limit size (holds-none (ltb plan_limit size) (line 15 1 0) lines.3)
