-- What the checks of a catalogue promise one another: what holds once line 4 has passed.
use Rattle.std.specs.Prelude.{ℕ, ◌≤◌, ◌≡◌, List, Result}
use Rattle.std.proofs.Math.Option.{Option}
use Rattle.spec.specs.Table.{Line, or_else}
use Rattle.input_catalogue.specs.Checked.{told_checked}
use Rattle.spec.specs.Catalogue.{commands, records, head, command, next, or_if, size_line, count_line, head_line, next_line}
use Rattle.spec.specs.Catalogue.{records_line, record_line}
use Rattle.input_layout.specs.Laid.{Framed}
use Rattle.spec.specs.declared.Refusal.{Refusal}

-- lines 1, 2 and 17 together
abbrev pub frame_line : List ℕ → Option Line
frame_line c = or_if (size_line c) (or_if (count_line c) (records_line c))

-- lines 1, 2, 17, 3 and 4
abbrev pub sound_line : List ℕ → Option Line
sound_line c = or_if (frame_line c) (or_if (head_line c) (or_if (next_line c) (record_line c)))

-- a check of one line is refused by that line exactly, or passes with N
abbrev pub Decides : List ℕ → Option Line → Result ℕ Refusal → Type 0
Decides c l r = told_checked r ≡ or_else l (commands c)

pub record Sound (c : List ℕ) : Type 0 where
  pub framed : Framed c
  pub heads : (a : ℕ) → 1 ≤ a → a ≤ commands c → head c a ≤ records c
  pub nexts : (j : ℕ) → 1 ≤ j → j ≤ records c → next c j ≤ records c
  pub named : (j : ℕ) → 1 ≤ j → j ≤ records c → (1 ≤ command c j) × (command c j ≤ commands c)
