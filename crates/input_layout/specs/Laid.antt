-- What the numbers of a layout say of a catalogue, and what its size promises to those who read it.
use Rattle.std.specs.Prelude.{ℕ, ◌≤◌, ◌≡◌, Bool, true, false, List, length}
use Rattle.spec.specs.Layout.{is_second, layout}
use Rattle.spec.specs.Catalogue.{commands, records}
use Rattle.input_layout.specs.declared.Layout.{Layout}

-- the bytes of an index, in the first edition and in the second
abbrev pub width_step : Bool → ℕ
width_step false = 1
width_step true = 2

abbrev pub width : List ℕ → ℕ
width c = width_step (is_second c)

-- the layout l is that of c, and its numbers are as small as bytes make them
pub record Laid (c : List ℕ) (l : Layout) : Type 0 where
  pub commands : l.commands ≡ commands c
  pub records : l.records ≡ records c
  pub width : l.width ≡ width c
  pub few_commands : l.commands ≤ 255
  pub few_records : l.records ≤ 65535

-- lines 1, 2 and 17 do not hold
pub record Framed (c : List ℕ) : Type 0 where
  pub size : length c ≡ (layout c).size
  pub few : commands c ≤ 24
  pub short : records c ≤ 1024
