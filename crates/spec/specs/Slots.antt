-- Slots on the command bus (docs/MANUAL.md, "Slots"): beside each letter of a normal form a number from 0. Of two
-- conflicting letters the earlier has the smaller slot; independent ones may share a slot.
use Rattle.std.specs.Prelude.{ℕ, suc, ◌<◌, ◌≤◌, max, ◌≡◌, Bool, true, false, ◌↔◌, length, get_or}
use mathlib.Core.List.{List, [], ◌∷◌, ◌++◌, Memᴰ}
use Rattle.std.proofs.Math.Option.{Option}
use Rattle.spec.specs.Table.{Line, first_line, Answer, or_else}
use Rattle.spec.specs.Catalogue.{stands}
use Rattle.spec.specs.Conflict.{conflict}
use Rattle.spec.specs.Byte.{command_of}
use Rattle.spec.specs.Letters.{normal_form}
use Rattle.spec.specs.Answers.{SlotCounts}
use Rattle.spec.specs.Calls.{normal_form_lines, area_line, area_after}

-- the command of an earlier letter, and its slot
pub record Slotted : Type 0 where
  pub command : ℕ
  pub slot : ℕ

abbrev pub slotted : ℕ → ℕ → Slotted
slotted k s = record { command = k; slot = s }

-- an earlier letter conflicts or not, its slot, and what the others leave
abbrev pub above_step : Bool → ℕ → ℕ → ℕ
above_step true s n = max (suc s) n
above_step false s n = n

-- one more than the largest slot of the earlier letters that conflict with command k; 0 if none does
unfoldable pub above : List ℕ → ℕ → List Slotted → ℕ
above c k [] = 0
above c k (x ∷ t) = above_step (conflict c k x.command) x.slot (above c k t)

-- the slots of the letters of z behind the earlier letters t, the newest first
unfoldable pub slots_after : List ℕ → List Slotted → List ℕ → List ℕ
slots_after c t [] = []
slots_after c t (b ∷ z) =
    let s = above c (command_of b) t in
    s ∷ slots_after c (slotted (command_of b) s ∷ t) z

abbrev pub slots : List ℕ → List ℕ → List ℕ
slots c z = slots_after c [] z

-- how many different numbers stand in a list: each is counted where it stands for the last time
abbrev pub different_step : Bool → ℕ → ℕ
different_step true d = d
different_step false d = suc d

unfoldable pub different : List ℕ → ℕ
different [] = 0
different (n ∷ ns) = different_step (stands n ns) (different ns)

-- how many slots are in use
abbrev pub slots_in_use : List ℕ → List ℕ → ℕ
slots_in_use c z = different (slots c z)

-- What a planner may rely on

-- the letters at places i and j of z conflict; those of one command do
abbrev pub Clash : List ℕ → List ℕ → ℕ → ℕ → Type 0
Clash c z i j = conflict c (command_of (get_or z i 0)) (command_of (get_or z j 0)) ≡ true

-- a number beside each letter of z; of two conflicting letters the earlier has the smaller one
pub record Fits (c z ns : List ℕ) : Type 0 where
  pub long : length ns ≡ length z
  pub rising : (i j : ℕ) → i < j → j < length z → Clash c z i j → get_or ns i 0 < get_or ns j 0

-- the numbers ns fit the letters of z, each letter has the smallest that this leaves it, and n of them are different: 0
-- to n - 1; no other numbers that fit have fewer different ones
pub record Numbered (c z ns : List ℕ) (n : ℕ) : Type 0 where
  pub fits : Fits c z ns
  pub smallest : (ms : List ℕ) → Fits c z ms → (i : ℕ) → i < length z → get_or ns i 0 ≤ get_or ms i 0
  pub in_use : n ≡ different ns
  pub no_gaps : (m : ℕ) → (m < n) ↔ Memᴰ m ns
  pub fewest : (ms : List ℕ) → Fits c z ms → n ≤ different ms

-- The slots call: as the normal form alone, and a second area, of 16-bit numbers, for the slots

abbrev pub slots_lines : List ℕ → List ℕ → List ℕ → List ℕ → List (Option Line)
slots_lines c v area numbers = normal_form_lines c v area ++ area_line 1 (length v) numbers ∷ []

abbrev pub slot_counts : List ℕ → List ℕ → SlotCounts
slot_counts c v = record { length = length (normal_form c v); in_use = slots_in_use c (normal_form c v) }

abbrev pub slots_answer : List ℕ → List ℕ → List ℕ → List ℕ → Answer SlotCounts
slots_answer c v area numbers = or_else (first_line (slots_lines c v area numbers)) (slot_counts c v)

abbrev pub slots_area : List ℕ → List ℕ → List ℕ → List ℕ → List ℕ
slots_area c v area numbers = area_after (first_line (slots_lines c v area numbers)) (normal_form c v) area

abbrev pub slots_numbers : List ℕ → List ℕ → List ℕ → List ℕ → List ℕ
slots_numbers c v area numbers =
    area_after (first_line (slots_lines c v area numbers)) (slots c (normal_form c v)) numbers
