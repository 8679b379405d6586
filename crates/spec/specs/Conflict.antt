-- Which commands conflict, from the pairs that a catalogue names, and from nothing else of it.
use Rattle.std.specs.Prelude.{ℕ, ◌≡◌, Bool, ◌||◌, ◌⊎◌, eqb}
use mathlib.Core.List.{List, Memᴰ}
use Rattle.spec.specs.Catalogue.{chain, stands}

-- a catalogue of either edition names the pair (a, b), a from 1 to N, if b stands in the chain of a
abbrev pub Names : List ℕ → ℕ → ℕ → Type 0
Names c a b = Memᴰ b (chain c a)

-- two commands conflict under named pairs if they are the same or one is named with the other
abbrev pub ConflictingBy : (ℕ → ℕ → Type 0) → ℕ → ℕ → Type 0
ConflictingBy P a b = (a ≡ b) ⊎ (P a b ⊎ P b a)

abbrev pub Conflicting : List ℕ → ℕ → ℕ → Type 0
Conflicting c = ConflictingBy (Names c)

-- The same, computed

unfoldable pub names : List ℕ → ℕ → ℕ → Bool
names c a b = stands b (chain c a)

unfoldable pub conflict_by : (ℕ → ℕ → Bool) → ℕ → ℕ → Bool
conflict_by p a b = eqb a b || (p a b || p b a)

abbrev pub conflict : List ℕ → ℕ → ℕ → Bool
conflict c = conflict_by (names c)
