-- Laws of slots: there is one for each letter, they rise where letters conflict, and each is 0 or one more than that of
-- an earlier letter that conflicts. So each is the smallest that fits, and no numbers that fit use fewer. And a slots
-- call is refused for what the normal form alone is, or else by line 9 for the second area.
use Prim.Native.Nat.{ℕ, zero, suc, ◌≤◌, ◌<◌}
use native.Mathlib.Omega.{arith}
use Rattle.std.proofs.Math.Decide.{dec_le}
use Rattle.std.specs.Prelude.{◌≡◌, Bool, ◌⊎◌, ◌↔◌, length, get_or}
use Rattle.std.proofs.Math.Path.{refl, ap, subst}
use Rattle.std.proofs.Common.{◌∙◌}
use Rattle.std.proofs.Math.Bool.{true, false}
use mathlib.Core.List.Memᴰ
use mathlib.Core.List.{List, [], ◌∷◌, Memᴰ}
use Rattle.std.proofs.Math.Option.{none}
use Rattle.std.proofs.Math.Logic.{inl, inr}
use Rattle.theory_schedules.specs.Levels.{TightAt, Rising, Tight}
use Rattle.theory_schedules.specs.LevelsLaws.{tight_least}
use Rattle.spec.specs.Table.{Line, line, first_line, NoneHolds, FirstHolds}
use Rattle.spec_laws.specs.TableLaws.{none_left}
use Rattle.spec.specs.Conflict.{conflict}
use Rattle.spec.specs.AlphabetLaws.{conflict_sym}
use Rattle.spec.specs.Byte.{command_of}
use Rattle.spec.specs.Calls.{normal_form_lines, area_line}
use Rattle.spec_laws.specs.PairedLaws.{below_line}
use Rattle.spec_laws.specs.DifferentLaws.{largest}
use Rattle.spec_laws.specs.FewestLaws.{tight_fewest, tight_largest, tight_whole}
use Rattle.spec.specs.Slots.{Slotted, slotted, above_step, above, slots_after, slots, slots_in_use, Clash, Numbered, slots_lines}

module _ (c : List ℕ) where
  -- one letter, of command k, behind the letters t

  above_over : (k : ℕ) {x : Slotted} {t : List Slotted} → Memᴰ x t → conflict c k x.command ≡ true
      → x.slot < above c k t
  unfolding above
  above_over k (Memᴰ.head {x = y} e) h =
      let f : conflict c k y.command ≡ true = rw e at h in
      rw f (omega (arith, ap (λ z. z.slot) e))
  above_over k {x} {t = y ∷ t} (Memᴰ.tail m) h = go (conflict c k y.command) (above_over k m h)
    where
      go : (b : Bool) → x.slot < above c k t → x.slot < above_step b y.slot (above c k t)
      go true l = omega arith
      go false l = l

  -- s is 0, or one more than the slot of a letter of t that conflicts
  data Led (k : ℕ) (t : List Slotted) (s : ℕ) : Type 0 where
    lowest : s ≡ 0 → Led k t s
    over : {x : Slotted} → Memᴰ x t → conflict c k x.command ≡ true → s ≡ suc x.slot → Led k t s

  led_later : {k s : ℕ} {y : Slotted} {t : List Slotted} → Led k t s → Led k (y ∷ t) s
  led_later (lowest e) = lowest e
  led_later (over m h e) = over (Memᴰ.tail m) h e

  above_led : (k : ℕ) (t : List Slotted) → Led k t (above c k t)
  unfolding above
  above_led k [] = lowest refl
  above_led k (y ∷ t) = go (conflict c k y.command) refl (dec_le n (suc y.slot)) (above_led k t)
    where
      n : ℕ
      n = above c k t

      go : (b : Bool) → conflict c k y.command ≡ b → Dec (n ≤ suc y.slot) → Led k t n
          → Led k (y ∷ t) (above_step b y.slot n)
      go true e (yes l) d = over (Memᴰ.head refl) e (omega arith)
      go true e (no l) d = led_later (subst (Led k t) (omega arith) d)
      go false e l d = led_later d

  -- the letters of z behind the letters t

  -- the letter b with its slot
  abbrev newest : ℕ → List Slotted → Slotted
  newest b t = slotted (command_of b) (above c (command_of b) t)

  slots_over : (t : List Slotted) (z : List ℕ) (j : ℕ) → j < length z → {x : Slotted} → Memᴰ x t
      → conflict c (command_of (get_or z j 0)) x.command ≡ true → x.slot < get_or (slots_after c t z) j 0
  unfolding slots_after
  slots_over t [] j l m h = absurd (omega arith)
  slots_over t (b ∷ z) zero l m h = above_over (command_of b) m h
  slots_over t (b ∷ z) (suc j) l m h =
      slots_over (newest b t ∷ t) z j (omega arith) (Memᴰ.tail m) h

  slots_rise : (t : List Slotted) (z : List ℕ) → Rising (Clash c z) (length z) (λ i. get_or (slots_after c t z) i 0)
  unfolding slots_after
  slots_rise t [] i j l h d = absurd (omega arith)
  slots_rise t (b ∷ z) i zero l h d = absurd (omega arith)
  slots_rise t (b ∷ z) zero (suc j) l h d =
      slots_over (newest b t ∷ t) z j (omega arith) (Memᴰ.head refl)
      (conflict_sym c (command_of (get_or z j 0)) (command_of b) ∙ d)
  slots_rise t (b ∷ z) (suc i) (suc j) l h d =
      slots_rise (newest b t ∷ t) z i j (omega arith) (omega arith) d

  -- the number at place j is one more than that of an earlier letter of z that conflicts, or led by t
  abbrev LedAt : List Slotted → List ℕ → List ℕ → ℕ → Type 0
  LedAt t z ns j =
      ((i : ℕ) × (i < j) × Clash c z i j × (get_or ns j 0 ≡ suc (get_or ns i 0)))
      ⊎ Led (command_of (get_or z j 0)) t (get_or ns j 0)

  slots_led : (t : List Slotted) (z : List ℕ) (j : ℕ) → j < length z → LedAt t z (slots_after c t z) j
  unfolding slots_after
  slots_led t [] j l = absurd (omega arith)
  slots_led t (b ∷ z) zero l = inr (above_led (command_of b) t)
  slots_led t (b ∷ z) (suc j) l = go (slots_led (newest b t ∷ t) z j (omega arith))
    where
      go : LedAt (newest b t ∷ t) z (slots_after c (newest b t ∷ t) z) j
          → LedAt t (b ∷ z) (slots_after c t (b ∷ z)) (suc j)
      go (inl x) = let (i, h, d, e) = x in inl (suc i, omega arith, d, e)
      go (inr (lowest e)) = inr (lowest e)
      go (inr (over (Memᴰ.head q) h e)) =
          let k = command_of (get_or z j 0) in
          let d = subst (λ y. conflict c k y.command ≡ true) q h in
          inl (0, omega arith, conflict_sym c (command_of b) k ∙ d, e ∙ ap (λ y. suc y.slot) q)
      go (inr (over (Memᴰ.tail m) h e)) = inr (over m h e)

  slots_tight : (z : List ℕ) → Tight (Clash c z) (length z) (λ i. get_or (slots c z) i 0)
  slots_tight z j l = go (slots_led [] z j l)
    where
      go : LedAt [] z (slots c z) j → TightAt (Clash c z) (λ i. get_or (slots c z) i 0) j
      go (inl x) = inr x
      go (inr (lowest e)) = inl e
      go (inr (over m h e)) = absurd (Memᴰ.not-nil m)

  after_length : (t : List Slotted) (z : List ℕ) → length (slots_after c t z) ≡ length z
  unfolding slots_after
  after_length t [] = refl
  after_length t (b ∷ z) = ap suc (after_length (newest b t ∷ t) z)

  module _ (z : List ℕ) where
    pub slots_length : length (slots c z) ≡ length z
    slots_length = after_length [] z

    pub numbered : Numbered c z (slots c z) (slots_in_use c z)
    numbered =
        record {
          fits = record { long = slots_length; rising = slots_rise [] z };
          smallest = λ ms f. tight_least (Clash c z) (length z) (slots_tight z) f.rising;
          in_use = refl;
          no_gaps = λ m. tight_whole (Clash c z) (length z) (slots c z) slots_length (slots_tight z) m;
          fewest = λ ms f.
              tight_fewest (Clash c z) (length z) (slots c z) slots_length (slots_tight z) ms f.long f.rising;
        }

    pub in_use-largest : slots_in_use c z ≡ largest (slots c z)
    in_use-largest = tight_largest (Clash c z) (length z) (slots c z) slots_length (slots_tight z)

module _ (c v area numbers : List ℕ) where
  pub slots_refused : (l : Line) → FirstHolds l (slots_lines c v area numbers)
      ↔ (FirstHolds l (normal_form_lines c v area)
      ⊎ (NoneHolds (normal_form_lines c v area) × (length numbers < length v) × (l ≡ line 9 0 1)))
  slots_refused l = below_line (normal_form_lines c v area) l (length numbers) (length v) (line 9 0 1)

  pub slots_none : first_line (slots_lines c v area numbers) ≡ none → first_line (normal_form_lines c v area) ≡ none
  slots_none e = none_left (normal_form_lines c v area) (area_line 1 (length v) numbers ∷ []) e
