-- Marking in rows of 24 numbers: two commands that conflict are marked in the rows of both, and which commands stand in
-- the chain of command a is noted in row a.
use Rattle.std.specs.Prelude.{ℕ, zero, suc, ◌+◌, ◌-◌, ◌<◌, ◌≤◌, ◌≡◌, List, [], ◌∷◌, length, get_or, set}

abbrev pub cell : List (List ℕ) → ℕ → ℕ → ℕ
cell rows i j = get_or (get_or rows i []) j 0

pub record Shape (rows : List (List ℕ)) : Type 0 where
  pub tall : length rows ≡ 24
  pub wide : (i : ℕ) → i < 24 → length (get_or rows i []) ≡ 24

-- a command that has a row
abbrev pub InRows : ℕ → Type 0
InRows a = (1 ≤ a) × (a ≤ 24)

-- a mark in row i at place j
abbrev pub put : List (List ℕ) → ℕ → ℕ → List (List ℕ)
put rows i j = set rows i (set (get_or rows i []) j 1)

-- commands a and b, each marked in the row of the other
abbrev pub pair : List (List ℕ) → ℕ → ℕ → List (List ℕ)
pair rows a b = put (put rows (a - 1) (b - 1)) (b - 1) (a - 1)

-- the commands b of a list, each marked with a
unfoldable pub pairs : List (List ℕ) → ℕ → List ℕ → List (List ℕ)
pairs rows a [] = rows
pairs rows a (b ∷ bs) = pairs (pair rows a b) a bs

-- the commands b of a list, noted in row a
abbrev pub note : List (List ℕ) → ℕ → ℕ → List (List ℕ)
note rows a b = put rows (a - 1) (b - 1)

unfoldable pub notes : List (List ℕ) → ℕ → List ℕ → List (List ℕ)
notes rows a [] = rows
notes rows a (b ∷ bs) = notes (note rows a b) a bs

-- the commands above k whose flags are set, the first flag that of k + 1
abbrev pub member : ℕ → ℕ → List ℕ → List ℕ
member k zero ms = ms
member k (suc f) ms = (k + 1) ∷ ms

unfoldable pub members : ℕ → List ℕ → List ℕ
members k [] = []
members k (f ∷ fs) = member k f (members (k + 1) fs)

-- commands a and b marked if a flag is set
abbrev pub marked_if : ℕ → List (List ℕ) → ℕ → ℕ → List (List ℕ)
marked_if zero rows a b = rows
marked_if (suc f) rows a b = pair rows a b
