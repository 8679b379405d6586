-- What the call that reads a catalogue promises: the answer that lines 1 to 6 and 17 give, and the conflicts where
-- none holds.
use Rattle.std.specs.Prelude.{ℕ, ◌≡◌, List, Result}
use Rattle.std.proofs.Math.Option.{none}
use Rattle.input_catalogue.specs.Checked.{told_checked}
use Rattle.spec.specs.Table.{first_line, or_else}
use Rattle.spec.specs.Catalogue.{commands, catalogue_lines}
use Rattle.input_chains.specs.Conflicts.{Conflicts}
use Rattle.spec.specs.declared.Refusal.{Refusal}

-- c is the catalogue, rows are the lent rows as the call leaves them, r is its answer
pub record Reading (c : List ℕ) (rows : List (List ℕ)) (r : Result ℕ Refusal) : Type 0 where
  pub answer : told_checked r ≡ or_else (first_line (catalogue_lines c)) (commands c)
  pub conflicts : first_line (catalogue_lines c) ≡ none → Conflicts c rows
