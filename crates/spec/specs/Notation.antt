-- The beacon team's notation (docs/MANUAL.md, "Notation"): which texts there are, and which plan each writes out.
use Rattle.std.specs.Prelude.{ℕ, zero, suc, ◌+◌, ◌-◌, ◌*◌, ◌≤◌, ◌<◌, max, Bool, true, false, List, [], ◌∷◌, ◌++◌, map, length, take, leb, ltb, eqb}
use Rattle.std.proofs.Math.Option.{Option, none, some}
use Rattle.spec.specs.Table.{found_step}
use Rattle.spec.specs.Catalogue.{within}
use Rattle.spec.specs.Byte.{undone, undo_of}

-- what a byte of a text is: byte 32 a blank, 40 and 41 brackets, 45 a minus, 48 to 57 the digits
pub data Token : Type 0 where
  blank : Token
  opening : Token
  closing : Token
  minus : Token
  digit : ℕ → Token
  other : Token

abbrev pub token_step : Bool → Bool → Bool → Bool → Bool → ℕ → Token
token_step true o c m d n = blank
token_step false true c m d n = opening
token_step false false true m d n = closing
token_step false false false true d n = minus
token_step false false false false true n = digit n
token_step false false false false false n = other

unfoldable pub token_of : ℕ → Token
token_of b = token_step (eqb b 32) (eqb b 40) (eqb b 41) (eqb b 45) (within 48 57 b) (b - 48)

abbrev pub tokens : List ℕ → List Token
tokens s = map token_of s

-- What a text says: its items in their order. A command has whether it is undone, its number, and how many bytes of
-- the text are left at its first digit; a group has whether it is undone, what stands in its brackets, and its count.
pub data Items : Type 0 where
  empty : Items
  command : Bool → ℕ → ℕ → Items → Items
  group : Bool → Items → ℕ → Items → Items

-- From here on, a part of a text stands between what is left of the text where it begins and where it ends.

-- more digits of a number that is v so far and n in the end, at most `high`, with no leading zero
pub data Digits (high : ℕ) : ℕ → List Token → List Token → ℕ → Type 0 where
  last : {n : ℕ} {r : List Token} → n ≤ high → Digits high n r r n
  more : {v d n : ℕ} {s r : List Token} → 1 ≤ v → Digits high (10 * v + d) s r n → Digits high v (digit d ∷ s) r n

-- what is read: a sequence; an item, undone or not, with the rest of its sequence; the rest of a sequence after an item
pub data Kind : Type 0 where
  sequence : Kind
  item : Bool → Kind
  after : Kind

pub data Reads : Kind → List Token → List Token → Items → Type 0 where
  -- a sequence may be empty and may begin with blanks; it begins with an item, or with a minus directly before one
  nothing : {r : List Token} → Reads sequence r r empty
  space : {s r : List Token} {t : Items} → Reads sequence s r t → Reads sequence (blank ∷ s) r t
  plain : {s r : List Token} {t : Items} → Reads (item false) s r t → Reads sequence s r t
  signed : {s r : List Token} {t : Items} → Reads (item true) s r t → Reads sequence (minus ∷ s) r t
  -- an item is a number from 1 to 24, or a sequence in brackets, alone or with a count of 0 to 255 directly behind
  number : {u : Bool} {d k : ℕ} {s m r : List Token} {t : Items} → 1 ≤ d → Digits 24 d s m k → Reads after m r t
      → Reads (item u) (digit d ∷ s) r (command u k (suc (length s)) t)
  once : {u : Bool} {s m r : List Token} {g t : Items} → Reads sequence s (closing ∷ m) g → Reads after m r t
      → Reads (item u) (opening ∷ s) r (group u g 1 t)
  times : {u : Bool} {d n : ℕ} {s m q r : List Token} {g t : Items} → Reads sequence s (closing ∷ digit d ∷ m) g
      → Digits 255 d m q n → Reads after q r t → Reads (item u) (opening ∷ s) r (group u g n t)
  -- after an item the sequence ends, or a blank stands before the rest
  ends : {r : List Token} → Reads after r r empty
  gap : {s r : List Token} {t : Items} → Reads sequence s r t → Reads after (blank ∷ s) r t

-- the text s is a sequence that says t
abbrev pub Text : List ℕ → Items → Type 0
Text s t = Reads sequence (tokens s) [] t

-- The plan written out

abbrev pub signed_byte : Bool → ℕ → ℕ
signed_byte false k = k
signed_byte true k = undone k

abbrev pub signed_plan : Bool → List ℕ → List ℕ
signed_plan false v = v
signed_plan true v = undo_of v

unfoldable pub repeated : ℕ → List ℕ → List ℕ
repeated zero v = []
repeated (suc n) v = v ++ repeated n v

-- a minus before a group undoes the whole repeated group
unfoldable pub plan_of : Items → List ℕ
plan_of empty = []
plan_of (command u k l t) = signed_byte u k ∷ plan_of t
plan_of (group u g n t) = signed_plan u (repeated n (plan_of g)) ++ plan_of t

-- its length, as a number: it can be too long to be written
unfoldable pub size_of : Items → ℕ
size_of empty = 0
size_of (command u k l t) = suc (size_of t)
size_of (group u g n t) = n * size_of g + size_of t

-- how deep brackets nest
unfoldable pub nesting_of : Items → ℕ
nesting_of empty = 0
nesting_of (command u k l t) = nesting_of t
nesting_of (group u g n t) = max (suc (nesting_of g)) (nesting_of t)

abbrev pub first : Option ℕ → Option ℕ → Option ℕ
first none o = o
first (some l) o = some l

-- the first command above n, repeated or not: how many bytes are left at its first digit
unfoldable pub first_above : ℕ → Items → Option ℕ
first_above n empty = none
first_above n (command u k l t) = found_step (ltb n k) l (first_above n t)
first_above n (group u g c t) = first (first_above n g) (first_above n t)

-- Texts that are wrong

-- some ending makes s a text
abbrev pub Mendable : List ℕ → Type 0
Mendable s = (e : List ℕ) × (t : Items) × Text (s ++ e) t

-- s is no text, and i is the place of the first byte after which no ending could mend it, or its length where it only
-- stops too soon
pub record Wrong (s : List ℕ) (i : ℕ) : Type 0 where
  pub within : i ≤ length s
  pub before : Mendable (take i s)
  pub beyond : i < length s → ¬ Mendable (take (suc i) s)
  pub no_text : (t : Items) → ¬ Text s t

-- the place of the first opening bracket around which 8 are open already, where d are open at place i
unfoldable pub first_deep : ℕ → ℕ → List Token → Option ℕ
first_deep d i [] = none
first_deep d i (blank ∷ s) = first_deep d (suc i) s
first_deep d i (opening ∷ s) = found_step (leb 8 d) i (first_deep (suc d) (suc i) s)
first_deep zero i (closing ∷ s) = first_deep zero (suc i) s
first_deep (suc d) i (closing ∷ s) = first_deep d (suc i) s
first_deep d i (minus ∷ s) = first_deep d (suc i) s
first_deep d i (digit x ∷ s) = first_deep d (suc i) s
first_deep d i (other ∷ s) = first_deep d (suc i) s
