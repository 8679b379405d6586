-- The input of the program loops (docs/MANUAL.md, "Program"): a catalogue of either edition, whose length its first two
-- or three bytes tell, then for each of two plans a count in two bytes, low byte first, and that many bytes; nothing
-- after, and at most 8,192 bytes in all.
use Rattle.std.specs.Prelude.{ℕ, ◌+◌, ◌*◌, ◌≤◌, ◌≡◌, Bool, ◌&&◌, List, ◌∷◌, ◌++◌, length, take, drop, leb, eqb}
use Rattle.spec.specs.Layout.{pair_at, layout}

-- the length that its first bytes give a catalogue
abbrev pub catalogue_length : List ℕ → ℕ
catalogue_length s = (layout s).size

-- a plan behind its count in two bytes, low byte first
pub data Counted : List ℕ → List ℕ → Type 0 where
  counted : {low high : ℕ} {v : List ℕ} → length v ≡ low + 256 * high → Counted v (low ∷ high ∷ v)

-- the input s is this catalogue and these two plans, well framed
pub record Framed (s c v w : List ℕ) : Type 0 where
  pub first : List ℕ
  pub second : List ℕ
  pub bytes : s ≡ c ++ first ++ second
  pub catalogue : length c ≡ catalogue_length c
  pub plan1 : Counted v first
  pub plan2 : Counted w second
  pub limit : length s ≤ 8192

-- The same by computing; a byte past the end counts as 0.

-- the count at place i, the plan behind it, and where that ends
abbrev pub count_at : List ℕ → ℕ → ℕ
count_at s i = pair_at s i

abbrev pub plan_at : List ℕ → ℕ → List ℕ
plan_at s i = take (count_at s i) (drop (i + 2) s)

abbrev pub plan_end : List ℕ → ℕ → ℕ
plan_end s i = i + 2 + count_at s i

-- where the count of the second plan stands; that of the first stands where the catalogue ends
abbrev pub second_place : List ℕ → ℕ
second_place s = plan_end s (catalogue_length s)

-- the parts make up the whole input, which is not too long
abbrev pub well_framed : List ℕ → Bool
well_framed s = leb (length s) 8192 && eqb (plan_end s (second_place s)) (length s)

-- the parts of a well framed input
abbrev pub catalogue_of : List ℕ → List ℕ
catalogue_of s = take (catalogue_length s) s

abbrev pub plan1_of : List ℕ → List ℕ
plan1_of s = plan_at s (catalogue_length s)

abbrev pub plan2_of : List ℕ → List ℕ
plan2_of s = plan_at s (second_place s)
