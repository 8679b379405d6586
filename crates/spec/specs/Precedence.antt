-- The precedence check (docs/MANUAL.md, "Precedence"): whether one letter of a normal form stays before another in
-- every arrangement that swaps of independent neighbours reach.
use Rattle.std.specs.Prelude.{ℕ, suc, ◌+◌, ◌*◌, ◌/◌, ◌<◌, ◌≤◌, ◌≡◌, Bool, true, false, not, ◌&&◌, ◌||◌, ◌⊎◌, length, get_or, take, drop, eqb, leb, ltb}
use mathlib.Core.List.{List, [], ◌∷◌, ◌++◌, Memᴰ}
use Rattle.std.proofs.Math.Option.{Option, none, some}
use Rattle.theory_words.specs.Normal.{meets}
use Rattle.theory_schedules.specs.Precedence.{raised}
use Rattle.spec.specs.Table.{Line, first_of, line_at, first_line, Answer, or_else}
use Rattle.spec.specs.Catalogue.{commands, catalogue_lines}
use Rattle.spec.specs.Conflict.{conflict}
use Rattle.spec.specs.Plan.{plan_lines}
use Rattle.spec.specs.Byte.{command_of}
use Rattle.spec.specs.Letters.{alphabet, normal_form}
use Rattle.spec.specs.Pairs.{Placed, placed, places_of}
use Rattle.spec.specs.Calls.{plan_limit}
use Rattle.spec.specs.Slots.{Clash}

-- the letters of z, each with its place, the first at place i
unfoldable pub placed_from : ℕ → List ℕ → List Placed
placed_from i [] = []
placed_from i (b ∷ z) = placed b i ∷ placed_from (suc i) z

-- swaps of independent neighbours, which carry the letters' places along, lead from one arrangement to another
pub data Rearranged (c : List ℕ) : List Placed → List Placed → Type 0 where
  same : {t : List Placed} → Rearranged c t t
  front : {x y : Placed} {t : List Placed} → conflict c (command_of x.byte) (command_of y.byte) ≡ false
      → Rearranged c (x ∷ y ∷ t) (y ∷ x ∷ t)
  behind : {x : Placed} {t u : List Placed} → Rearranged c t u → Rearranged c (x ∷ t) (x ∷ u)
  also : {t u w : List Placed} → Rearranged c t u → Rearranged c u w → Rearranged c t w

-- i stands in the list, and j behind it
pub data Before (i j : ℕ) : List ℕ → Type 0 where
  now : {ns : List ℕ} → Memᴰ j ns → Before i j (i ∷ ns)
  later : {n : ℕ} {ns : List ℕ} → Before i j ns → Before i j (n ∷ ns)

-- in every arrangement of z the letter from place i stands before the letter from place j
abbrev pub StaysBefore : List ℕ → List ℕ → ℕ → ℕ → Type 0
StaysBefore c z i j = (t : List Placed) → Rearranged c (placed_from 0 z) t → Before i j (places_of t)

-- a chain of letters, each in conflict with the next and before it, leads from place i to place j
pub data Chain (c z : List ℕ) : ℕ → ℕ → Type 0 where
  link : {i j : ℕ} → i < j → j < length z → Clash c z i j → Chain c z i j
  on : {i k j : ℕ} → i < k → Clash c z i k → Chain c z k j → Chain c z i j

-- the same, computed: from the letter at place i a chain leads to letters behind it, and the letter at place j is
-- behind it and conflicts with one of those, or with the first
unfoldable pub leads : List ℕ → List ℕ → ℕ → ℕ → Bool
leads c z i j =
    ltb i j
    && meets (alphabet c) (command_of (get_or z j 0))
    (raised (alphabet c) (command_of (get_or z i 0) ∷ []) (drop (suc i) (take j z)))

-- Places in a list, taken two by two: pair p has those at 2p and 2p + 1

-- how many pairs there are, the last of which may lack its second place
abbrev pub pairs_in : List ℕ → ℕ
pairs_in ns = (length ns + 1) / 2

-- pair p lacks its second place, names a place past a normal form of l letters, or names the same place twice
abbrev pub faulty : ℕ → List ℕ → ℕ → Bool
faulty l ns p =
    leb (length ns) (2 * p + 1)
    || (leb l (get_or ns (2 * p) 0)
    || (leb l (get_or ns (2 * p + 1) 0) || eqb (get_or ns (2 * p) 0) (get_or ns (2 * p + 1) 0)))

-- line 16: the first faulty pair
abbrev pub places_line : ℕ → List ℕ → Option Line
places_line l ns = line_at 16 0 (λ p. p) (first_of (faulty l ns) (pairs_in ns) 0)

-- the first letter of pair p stays before the second
abbrev pub pair_leads : List ℕ → List ℕ → List ℕ → ℕ → Bool
pair_leads c z ns p = leads c z (get_or ns (2 * p) 0) (get_or ns (2 * p + 1) 0)

abbrev pub finds_none : Option ℕ → Bool
finds_none none = true
finds_none (some p) = false

-- so does that of every pair
abbrev pub all_lead : List ℕ → List ℕ → List ℕ → Bool
all_lead c z ns = finds_none (first_of (λ p. not (pair_leads c z ns p)) (pairs_in ns) 0)

-- the same as a statement: pair p lacks its second place, names a place that is none of l letters, or names the same
-- place twice
abbrev pub Faulty : ℕ → List ℕ → ℕ → Type 0
Faulty l ns p =
    (2 * p + 1 ≡ length ns) ⊎ (l ≤ get_or ns (2 * p) 0) ⊎ (l ≤ get_or ns (2 * p + 1) 0)
    ⊎ (get_or ns (2 * p) 0 ≡ get_or ns (2 * p + 1) 0)

-- pair p is faulty, and none before it is
pub record FirstFaulty (l : ℕ) (ns : List ℕ) (p : ℕ) : Type 0 where
  pub within : 2 * p < length ns
  pub is_faulty : Faulty l ns p
  pub none_before : (q : ℕ) → q < p → ¬ Faulty l ns q

-- The precedence check: a plan and places of its normal form

abbrev pub precedence_lines : List ℕ → List ℕ → List ℕ → List (Option Line)
precedence_lines c v ns =
    catalogue_lines c ++ plan_lines 1 plan_limit (commands c) v ++ places_line (length (normal_form c v)) ns ∷ []

abbrev pub precedence_answer : List ℕ → List ℕ → List ℕ → Answer Bool
precedence_answer c v ns = or_else (first_line (precedence_lines c v ns)) (all_lead c (normal_form c v) ns)

-- what it is refused for, if it is
abbrev pub precedence_fault : List ℕ → List ℕ → List ℕ → Option Line
precedence_fault c v ns = first_line (precedence_lines c v ns)
