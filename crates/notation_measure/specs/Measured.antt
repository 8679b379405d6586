-- What the measure of a part of a text tells of it: the length of what it writes out, cut off past 1,024, and the first
-- command above N.
use Rattle.std.specs.Prelude.{ℕ, ◌+◌, ◌*◌, ◌≤◌, ◌<◌, min, ◌≡◌, List, ltb, length, drop}
use Rattle.std.proofs.Math.Option.{Option, none}
use Rattle.std.specs.Prelude as rust
use Rattle.spec.specs.Answers.{told_option}
use Rattle.spec.specs.Table.{found_step}
use Rattle.spec.specs.Notation.{Token, tokens, size_of, first, first_above}
use Rattle.notation_laws.specs.Ended.{NoDigit}
use Rattle.notation_laws.specs.Here.{Here, number_of, SmallNumber}
use Rattle.notation_measure.specs.declared.Measure.{Measure}

-- how many bytes are left at a command above N, or none
abbrev pub told_above : rust.Option ℕ → Option ℕ
told_above = told_option

-- a length that stops growing once it is past 1,024
abbrev pub capped : ℕ → ℕ
capped n = min n 1025

-- the measure r is that of all that h says
pub record Measured (n : ℕ) (s : List ℕ) (at d : ℕ) (h : Here (drop at (tokens s)) d) (r : Measure) : Type 0 where
  pub size : r.size ≡ capped (size_of h.says)
  pub above : told_above r.above ≡ first_above n h.says
  pub left : drop r.end (tokens s) ≡ h.rest
  pub onward : at ≤ r.end
  pub within : r.end ≤ length s

-- the measure r is that of what h says up to the place r .end, from which on `behind` stands
pub record Part (n : ℕ) (s : List ℕ) (at d : ℕ) (h : Here (drop at (tokens s)) d) (r : Measure) : Type 0 where
  pub behind : Here (drop r.end (tokens s)) d
  pub same_rest : behind.rest ≡ h.rest
  pub low : r.size ≤ 1025
  pub size : capped (size_of h.says) ≡ capped (r.size + size_of behind.says)
  pub above : first_above n h.says ≡ first (told_above r.above) (first_above n behind.says)
  pub within : r.end ≤ length s

-- r is the measure of two parts, one behind the other
pub record Joined (a b r : Measure) : Type 0 where
  pub size : r.size ≡ capped (a.size + b.size)
  pub above : told_above r.above ≡ first (told_above a.above) (told_above b.above)
  pub end : r.end ≡ b.end

-- r is the measure of a group up to the place `stop`, of so many times what m measures
pub record Grouped (m : Measure) (count stop : ℕ) (r : Measure) : Type 0 where
  pub size : r.size ≡ capped (count * m.size)
  pub above : told_above r.above ≡ told_above m.above
  pub end : r.end ≡ stop

-- a command's number stands at the start of z
pub record CommandNumber (z : List Token) : Type 0 where
  pub small : SmallNumber z
  pub high : (number_of z).value ≤ 24
  pub digit_first : NoDigit z → ⊥

-- the measure r of a command whose number stands at place `at`, where so many bytes are left
pub record Commanded (n : ℕ) (s : List ℕ) (at bytes : ℕ) (r : Measure) : Type 0 where
  pub size : r.size ≡ 1
  pub above : told_above r.above ≡ found_step (ltb n (number_of (drop at (tokens s))).value) bytes none
  pub left : drop r.end (tokens s) ≡ (number_of (drop at (tokens s))).rest
  pub onward : at < r.end
  pub within : r.end ≤ length s
