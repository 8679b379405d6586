-- A set of the commands 1 to 24 as 24 numbers. The number at index j is 0 if command j + 1 conflicts with no command in
-- the set, and 32,768 or more if it is in the set itself.
use Rattle.std.specs.Prelude.{ℕ, suc, ◌+◌, ◌-◌, ◌<◌, ◌≤◌, ◌≡◌, ◌↔◌, ◌⊎◌, length, get_or, replicate}
use mathlib.Core.List.{List, [], ◌∷◌, Memᴰ}
use Rattle.theory_words.specs.All.{All}

-- command j + 1 is in the set
abbrev pub In : List ℕ → ℕ → Type 0
In s j = 32768 ≤ get_or s j 0

-- a is a command in the set
abbrev pub Has : List ℕ → ℕ → Type 0
Has s a = (1 ≤ a) × (a ≤ 24) × In s (a - 1)

-- the commands in the set are those in the list
pub record Marks (s R : List ℕ) : Type 0 where
  pub held : All (Has s) R
  pub only : (j : ℕ) → j < 24 → In s j → Memᴰ (j + 1) R

-- no command that the line tells of by 1 is in the set
abbrev pub Clear : List ℕ → List ℕ → Type 0
Clear line s = (j : ℕ) → j < 24 → get_or line j 0 ≡ 1 → In s j → ⊥

-- 24 lines of 24 numbers 0 or 1: line i tells which commands conflict with command i + 1, itself among them
pub record Table (rows : List (List ℕ)) : Type 0 where
  pub wide : (i : ℕ) → i < 24 → length (get_or rows i []) ≡ 24
  pub small : (i j : ℕ) → i < 24 → j < 24 → get_or (get_or rows i []) j 0 ≤ 1
  pub own : (i : ℕ) → i < 24 → get_or (get_or rows i []) i 0 ≡ 1
  pub mirrored : (i j : ℕ) → i < 24 → j < 24 → get_or (get_or rows i []) j 0 ≡ get_or (get_or rows j []) i 0

-- n commands are in the set
pub data Size : List ℕ → ℕ → Type 0 where
  none : Size [] 0
  less : {a n : ℕ} {s : List ℕ} → a < 32768 → Size s n → Size (a ∷ s) n
  more : {a n : ℕ} {s : List ℕ} → 32768 ≤ a → Size s n → Size (a ∷ s) (suc n)

-- the numbers of a set, by the table of conflicts; the set's size bounds them
pub record Meeting (rows : List (List ℕ)) (s : List ℕ) : Type 0 where
  pub wide : length s ≡ 24
  pub many : ℕ
  pub size : Size s many
  pub few : (i : ℕ) → i < 24 → (get_or s i 0 ≤ many) ⊎ In s i
  pub most : (i : ℕ) → i < 24 → get_or s i 0 ≤ 32768 + many
  pub tells : (i : ℕ) → i < 24 → (get_or s i 0 ≡ 0) ↔ Clear (get_or rows i []) s

-- s' is s with command k + 1 put in
pub record Added (k : ℕ) (rows : List (List ℕ)) (s s' : List ℕ) : Type 0 where
  pub here : In s' k
  pub keeps : (j : ℕ) → j < 24 → In s j → In s' j
  pub only : (j : ℕ) → j < 24 → In s' j → (j ≡ k) ⊎ In s j
  pub meeting : Meeting rows s'

-- the empty set
unfoldable pub empty : List ℕ
empty = replicate 24 0
