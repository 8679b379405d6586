-- How many brackets are open after a token, where a text is wrong, and where it nests too deep.
use Rattle.std.specs.Prelude.{ℕ, suc, ◌-◌, ◌≡◌, Bool, true, false, ◌&&◌, List, [], ◌∷◌, length, leb, eqb}
use Rattle.std.proofs.Math.Option.{Option, none, some}
use Rattle.std.specs.Prelude as rust
use Rattle.spec.specs.Answers.{told_option}
use Rattle.spec.specs.Table.{found_step, Answer, or_else, first_line, line_at}
use Rattle.spec.specs.Notation.{Token, blank, opening, closing, minus, digit, other, tokens, first_deep}
use Rattle.spec.specs.Scanner.{Outcome, says, wrong, start, run}
use Rattle.notation_modes.specs.declared.Mode.{Mode}
use Rattle.notation_modes.specs.Modes.{ends}
use Rattle.notation_scanner.specs.declared.Faults.{Faults}

abbrev pub depth_after : ℕ → Token → ℕ
depth_after d blank = d
depth_after d opening = suc d
depth_after d closing = d - 1
depth_after d minus = d
depth_after d (digit x) = d
depth_after d other = d

-- a place of the program's, or none
abbrev pub told_place : rust.Option ℕ → Option ℕ
told_place = told_option

-- place i, if the token there is a bracket around which 8 are open
abbrev pub deep_here : ℕ → ℕ → Token → Option ℕ
deep_here d i blank = none
deep_here d i opening = found_step (leb 8 d) i none
deep_here d i closing = none
deep_here d i minus = none
deep_here d i (digit x) = none
deep_here d i other = none

-- place n, if a text may not end there
abbrev pub end_step : Bool → ℕ → Option ℕ
end_step true n = none
end_step false n = some n

abbrev pub end_place : Mode → ℕ → ℕ → Option ℕ
end_place m depth n = end_step (ends m && eqb depth 0) n

-- where a text of n bytes is wrong
abbrev pub wrong_place : ℕ → Outcome → Option ℕ
wrong_place n (says t) = none
wrong_place n (wrong l) = some (n - l)

-- The faults of the text s; of a text that is wrong, only where it is
pub record Finds (s : List ℕ) (f : Faults) : Type 0 where
  pub wrong_at : told_place f.wrong ≡ wrong_place (length s) (run start (tokens s))
  pub deep_at : told_place f.wrong ≡ none → told_place f.deep ≡ first_deep 0 0 (tokens s)

-- line 13 at place w, or else line 14 at place d, or else the length n
abbrev pub decision : Option ℕ → Option ℕ → ℕ → Answer ℕ
decision w d n = or_else (first_line (line_at 13 1 (λ i. i) w ∷ line_at 14 1 (λ i. i) d ∷ [])) n
