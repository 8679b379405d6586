-- The layout that the code keeps is that of the catalogue's edition, and where the size is right the places that it
-- gives lie within the catalogue.
use Rattle.std.specs.Prelude.{ℕ, ◌+◌, ◌-◌, ◌≤◌, ◌<◌, ◌≡◌, refl, Bool, true, false, List, length}
use Rattle.std.proofs.Common.{arith, sym, ◌∙◌, ap, le-leb}
use Rattle.std.proofs.lemmas.Bool.{lt-leb}
use Rattle.spec.specs.Layout.{byte_at, pair_at, first_edition, second_edition, layout_step, is_second, layout}
use Rattle.spec.specs.AlphabetLaws.{within_in}
use Rattle.spec.specs.Catalogue.{commands, records, head_place, command_place, next_place, head}
use Rattle.input_layout.specs.declared.Layout.{Layout}
use Rattle.input_layout.specs.Laid.{width_step, Laid, Framed}

-- Edition by edition: false for the first, true for the second

step_one : (t : Bool) → width_step t ≡ 1 → t ≡ false
step_one false e = refl
step_one true e = absurd (omega arith)

step_two : (t : Bool) → (width_step t ≡ 1 → ⊥) → t ≡ true
step_two false n = absurd (n refl)
step_two true n = refl

narrow_step : (t : Bool) → (1 ≤ width_step t) × (width_step t ≤ 2)
narrow_step false = (omega arith, omega arith)
narrow_step true = (omega arith, omega arith)

module _ (c : List ℕ) where
  laid_step : (t : Bool) → is_second c ≡ t → (layout_step t c).commands ≤ 255 → (layout_step t c).records ≤ 65535
      → Laid c (record {
        commands = (layout_step t c).commands;
        records = (layout_step t c).records;
        width = width_step t;
      })
  laid_step t e n r = record {
    commands = ap (λ (s : Bool). (layout_step s c).commands) (sym e);
    records = ap (λ (s : Bool). (layout_step s c).records) (sym e);
    width = ap width_step (sym e);
    few_commands = n;
    few_records = r;
  }

  head_within_step : (t : Bool) (a : ℕ) → 1 ≤ a → a ≤ (layout_step t c).commands
      → (layout_step t c).head_place a + width_step t ≤ (layout_step t c).size
  head_within_step false a l h = omega arith
  head_within_step true a l h = omega arith

  next_within_step : (t : Bool) (j : ℕ) → 1 ≤ j → j ≤ (layout_step t c).records
      → (layout_step t c).command_place j + 1 + width_step t ≤ (layout_step t c).size
  next_within_step false j l h = omega arith
  next_within_step true j l h = omega arith

-- The layouts of both editions, from their numbers

module _ (c : List ℕ) where
  pub laid_first : byte_at c 0 < 128 → byte_at c 1 < 256
      → Laid c (record { commands = byte_at c 0; records = byte_at c 1; width = 1 })
  laid_first h k = laid_step c false (lt-leb 128 (byte_at c 0) h) (omega arith) (omega arith)

  pub laid_second : 128 ≤ byte_at c 0 → byte_at c 0 < 256 → pair_at c 1 < 65536
      → Laid c (record { commands = byte_at c 0 - 128; records = pair_at c 1; width = 2 })
  laid_second l h k = laid_step c true (le-leb 128 (byte_at c 0) l) (omega arith) (omega arith)

-- The edition, from the bytes of an index

module _ {c : List ℕ} {l : Layout} (h : Laid c l) where
  pub narrow : (1 ≤ l.width) × (l.width ≤ 2)
  narrow = rw h.width (narrow_step (is_second c))

  pub laid_one : l.width ≡ 1 → first_edition c ≡ layout c
  laid_one e = ap (λ (t : Bool). layout_step t c) (sym (step_one (is_second c) (sym h.width ∙ e)))

  pub laid_two : (l.width ≡ 1 → ⊥) → second_edition c ≡ layout c
  laid_two n = ap (λ (t : Bool). layout_step t c) (sym (step_two (is_second c) (λ e. n (h.width ∙ e))))

-- What lies within a catalogue of the right size

module _ {c : List ℕ} {l : Layout} (h : Laid c l) (f : Framed c) where
  pub head_within : (a : ℕ) → 1 ≤ a → a ≤ commands c → head_place c a + l.width ≤ length c
  head_within a i j = rw (h.width, f.size) (head_within_step c (is_second c) a i j)

  pub next_within : (j : ℕ) → 1 ≤ j → j ≤ records c → next_place c j + l.width ≤ length c
  next_within j i k = rw (h.width, f.size) (next_within_step c (is_second c) j i k)

  pub command_within : (j : ℕ) → 1 ≤ j → j ≤ records c → command_place c j < length c
  command_within j i k = omega (arith, next_within j i k)

-- the head of a command is the index at its place
pub head_at : (c : List ℕ) (a : ℕ) → 1 ≤ a → a ≤ commands c → (layout c).index_at (head_place c a) ≡ head c a
head_at c a l h = rw (within_in 1 (commands c) a l h)
