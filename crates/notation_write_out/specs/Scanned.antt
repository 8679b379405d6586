-- What is known of a text once lines 13 and 14 have passed.
use Rattle.std.specs.Prelude.{ℕ, ◌≡◌, List}
use Rattle.std.proofs.Math.Option.{none}
use Rattle.spec.specs.WriteOut.{text_line, nesting_line}

pub record Scanned (s : List ℕ) : Type 0 where
  pub text : text_line s ≡ none
  pub shallow : nesting_line s ≡ none
