-- Which letters of a plan cancel with each other (docs/MANUAL.md, "Pairs"). The plan is read from left to right. The
-- letters left so far are kept, the newest first, each with its place in the plan. A letter cancels with its undo if
-- that is left and no letter left after it conflicts with the two: so the undo is the newest letter left of their
-- command, since a command conflicts with itself. Their places are then a pair. A letter that does not cancel is left.
use Rattle.std.specs.Prelude.{ℕ, suc, ◌+◌, ◌*◌, ◌<◌, ◌≡◌, Bool, true, false, not, List, [], ◌∷◌, ◌++◌, map, reverse, length, get_or, take, eqb}
use Rattle.std.proofs.Math.Option.{Option, none, some}
use Rattle.theory_words.specs.All.{All}
use Rattle.spec.specs.Conflict.{conflict}
use Rattle.spec.specs.Byte.{command_of, undone}
use Rattle.spec.specs.Step.{Command}
use Rattle.spec.specs.Core.{Swaps}
use Rattle.spec.specs.Letters.{letters, normal_form}
use Rattle.spec.specs.Answers.{yes_no}

-- a letter and its place in the plan: places count every byte, fillers too
pub record Placed : Type 0 where
  pub byte : ℕ
  pub place : ℕ

abbrev pub placed : ℕ → ℕ → Placed
placed b i = record { byte = b; place = i }

-- the letters without their places, and their places
abbrev pub bytes_of : List Placed → List ℕ
bytes_of t = map (λ x. x.byte) t

abbrev pub places_of : List Placed → List ℕ
places_of t = map (λ x. x.place) t

-- the place of the letter that cancels with the one read, and the letters left without it
pub record Partner : Type 0 where
  pub place : ℕ
  pub rest : List Placed

-- of x, then t: x is the undo or not, x conflicts or not, and the partner in t
abbrev pub partner_step : Bool → Bool → Placed → List Placed → Option Partner → Option Partner
partner_step true k x t o = some (record { place = x.place; rest = t })
partner_step false true x t o = none
partner_step false false x t none = none
partner_step false false x t (some p) = some (record { place = p.place; rest = x ∷ p.rest })

-- the undo of b among the letters left, behind letters that do not conflict with b
unfoldable pub partner : List ℕ → ℕ → List Placed → Option Partner
partner c b [] = none
partner c b (x ∷ t) =
    partner_step (eqb x.byte (undone b)) (conflict c (command_of b) (command_of x.byte)) x t (partner c b t)

-- two places whose letters cancel with each other
pub record Pair : Type 0 where
  pub earlier : ℕ
  pub later : ℕ

-- what a reading has so far: the letters left, the newest first, and the pairs in the order in which they were found
pub record Reading : Type 0 where
  pub left : List Placed
  pub pairs : List Pair

-- the letter x is read, with its partner, if it has one
abbrev pub left_after : Placed → List Placed → Option Partner → List Placed
left_after x t none = x ∷ t
left_after x t (some p) = p.rest

abbrev pub pair_after : Placed → Option Partner → List Pair
pair_after x none = []
pair_after x (some p) = record { earlier = p.place; later = x.place } ∷ []

abbrev pub read_letter : List ℕ → Placed → Reading → Reading
read_letter c x r =
    let p = partner c x.byte r.left in
    record { left = left_after x r.left p; pairs = r.pairs ++ pair_after x p }

abbrev pub read_byte_step : Bool → List ℕ → Placed → Reading → Reading
read_byte_step true c x r = r
read_byte_step false c x r = read_letter c x r

-- a byte is read; a filler changes nothing
unfoldable pub read_byte : List ℕ → Placed → Reading → Reading
read_byte c x r = read_byte_step (eqb x.byte 0) c x r

-- the bytes from place i on are read
unfoldable pub read_from : List ℕ → ℕ → List ℕ → Reading → Reading
read_from c i [] r = r
read_from c i (b ∷ v) r = read_from c (suc i) v (read_byte c (placed b i) r)

-- the reading of a plan
unfoldable pub reading : List ℕ → List ℕ → Reading
reading c v = read_from c 0 v (record { left = []; pairs = [] })

-- pairs as the second area holds them: the place of the earlier letter, then that of the later, pair after pair
abbrev pub numbers_of : List Pair → List ℕ
numbers_of [] = []
numbers_of (p ∷ ps) = p.earlier ∷ p.later ∷ numbers_of ps

abbrev pub pair_numbers : List ℕ → List ℕ → List ℕ
pair_numbers c v = numbers_of (reading c v).pairs

-- What a planner may rely on

-- the letters left of a plan
abbrev pub left_of : List ℕ → List ℕ → List Placed
left_of c v = (reading c v).left

-- p is a command and its undo, the earlier before the later. When the later was read the earlier was left, and of the
-- letters left behind it, the newer ones, none conflicts with the two.
pub record IsPair (c v : List ℕ) (p : Pair) : Type 0 where
  pub order : p.earlier < p.later
  pub within : p.later < length v
  pub command : Command c (get_or v p.later 0)
  pub undo : get_or v p.earlier 0 ≡ undone (get_or v p.later 0)
  pub newer : List Placed
  pub older : List Placed
  pub left : left_of c (take p.later v) ≡ newer ++ placed (get_or v p.earlier 0) p.earlier ∷ older
  pub free : All (λ x. conflict c (command_of (get_or v p.later 0)) (command_of x.byte) ≡ false) newer

-- how often a number stands in a list
abbrev pub count : ℕ → List ℕ → ℕ
count i [] = 0
count i (n ∷ ns) = yes_no (eqb n i) + count i ns

-- Where the letters of v went. Without their places, those left are the letters of the normal form, up to swaps. Each
-- pair is a command and its undo. A place at which a letter stands is in exactly one pair or among the letters left,
-- never in both, and no other place is in either. So twice the pairs and the normal form's length are all letters.
pub record Accounts (c v : List ℕ) : Type 0 where
  pub left : Swaps c (reverse (bytes_of (left_of c v))) (normal_form c v)
  pub own : All (λ x. get_or v x.place 0 ≡ x.byte) (left_of c v)
  pub each : All (IsPair c v) (reading c v).pairs
  pub once : (i : ℕ) → count i (pair_numbers c v) + count i (places_of (left_of c v)) ≡ yes_no (not (eqb (get_or v i 0) 0))
  pub letters : 2 * length (reading c v).pairs + length (normal_form c v) ≡ length (letters v)
