-- How the bytes of a catalogue are laid out (docs/MANUAL.md, "Catalogue"), in either edition: N, R, N heads, and R
-- records of a command and the index of the next record. In the first edition each takes one byte. In the second
-- edition byte 0 is 128 + N, and R, a head and a next index take two bytes each, low byte first. A byte past the end
-- counts as 0.
use Rattle.std.specs.Prelude.{ℕ, ◌+◌, ◌*◌, ◌-◌, Bool, true, false, List, get_or, leb}

-- commands and records are numbered from 1
pub record Layout : Type 0 where
  -- N and R
  pub commands : ℕ
  pub records : ℕ
  -- the bytes before the heads, and in all
  pub start : ℕ
  pub size : ℕ
  -- the place of the head of a command, and of the command of a record; behind that stands its next index
  pub head_place : ℕ → ℕ
  pub command_place : ℕ → ℕ
  -- the index that stands at a place
  pub index_at : ℕ → ℕ

abbrev pub byte_at : List ℕ → ℕ → ℕ
byte_at c i = get_or c i 0

-- a number in two bytes, low byte first
abbrev pub pair_at : List ℕ → ℕ → ℕ
pair_at c i = byte_at c i + 256 * byte_at c (i + 1)

abbrev pub first_edition : List ℕ → Layout
first_edition c =
    let n = byte_at c 0 in
    let r = byte_at c 1 in
    record {
      commands = n;
      records = r;
      start = 2;
      size = 2 + n + 2 * r;
      head_place = λ a. 1 + a;
      command_place = λ j. n + 2 * j;
      index_at = byte_at c;
    }

abbrev pub second_edition : List ℕ → Layout
second_edition c =
    let n = byte_at c 0 - 128 in
    let r = pair_at c 1 in
    record {
      commands = n;
      records = r;
      start = 3;
      size = 3 + 2 * n + 3 * r;
      head_place = λ a. 1 + 2 * a;
      command_place = λ j. 2 * n + 3 * j;
      index_at = pair_at c;
    }

abbrev pub layout_step : Bool → List ℕ → Layout
layout_step false c = first_edition c
layout_step true c = second_edition c

-- a first byte of 128 or more is that of the second edition
abbrev pub is_second : List ℕ → Bool
is_second c = leb 128 (byte_at c 0)

abbrev pub layout : List ℕ → Layout
layout c = layout_step (is_second c) c
