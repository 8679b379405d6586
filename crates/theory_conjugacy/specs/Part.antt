-- The parts of a word, computed: the connected components of the conflict graph on the commands that occur. Each part
-- has a label, its largest command, the apex.
use Rattle.std.specs.Prelude.{ℕ, min, max, Bool, true, false, List, [], ◌∷◌, ltb, eqb}
use Rattle.theory_words.specs.Alphabet.{Alphabet, Word}
use Rattle.theory_words.specs.Filter.{filter}

-- k is smaller than j or not, j is smaller than k or not, k put into what follows j
unfoldable pub insert_step : Bool → Bool → ℕ → ℕ → List ℕ → List ℕ → List ℕ
insert_step true s k j js ks = k ∷ j ∷ js
insert_step false true k j js ks = j ∷ ks
insert_step false false k j js ks = j ∷ js

-- k put into an ascending list, if it is not there
unfoldable pub insert : ℕ → List ℕ → List ℕ
insert k [] = k ∷ []
insert k (j ∷ js) = insert_step (ltb k j) (ltb j k) k j js (insert k js)

unfoldable pub relabel_step : Bool → ℕ → ℕ → ℕ
relabel_step true high l = high
relabel_step false high l = l

-- the smaller of two labels is replaced by the larger
unfoldable pub relabel : ℕ → ℕ → ℕ → ℕ
relabel i j l = relabel_step (eqb l (min i j)) (max i j) l

-- the labels of two commands become one if the commands conflict; the labels of the two are i and j
unfoldable pub merge_step : Bool → ℕ → ℕ → (ℕ → ℕ) → ℕ → ℕ
merge_step true i j labels k = relabel i j (labels k)
merge_step false i j labels k = labels k

module _ (Γ : Alphabet) where
  open Γ use {cmd, conf}

  -- the commands that occur in a word, ascending, each once
  unfoldable pub commands : Word Γ → List ℕ
  commands [] = []
  commands (a ∷ w) = insert (cmd a) (commands w)

  unfoldable pub merge : ℕ → ℕ → (ℕ → ℕ) → ℕ → ℕ
  merge i j labels = merge_step (conf i j) (labels i) (labels j) labels

  -- one command with each of a list
  unfoldable pub merge_row : ℕ → List ℕ → (ℕ → ℕ) → ℕ → ℕ
  merge_row i [] labels = labels
  merge_row i (j ∷ js) labels = merge_row i js (merge i j labels)

  -- each of a list with each of another
  unfoldable pub merge_all : List ℕ → List ℕ → (ℕ → ℕ) → ℕ → ℕ
  merge_all [] js labels = labels
  merge_all (i ∷ is) js labels = merge_all is js (merge_row i js labels)

  -- the labels where these commands occur: each its own at first, then each conflicting pair is merged
  unfoldable pub labels : List ℕ → ℕ → ℕ
  labels ks = merge_all ks ks (λ k. k)

  unfoldable pub label : Word Γ → ℕ → ℕ
  label w = labels (commands w)

  -- the labels in use: the commands that are their own label
  unfoldable pub apexes : Word Γ → List ℕ
  apexes w = let lab = label w in filter (λ k. eqb (lab k) k) (commands w)

  -- the letters of w whose commands pass a test
  abbrev pub by_command : (ℕ → Bool) → Word Γ → Word Γ
  by_command f = filter (λ a. f (cmd a))

  -- the letters of w whose command has the label m
  unfoldable pub share : (ℕ → ℕ) → ℕ → Word Γ → Word Γ
  share lab m w = by_command (λ k. eqb (lab k) m) w

  unfoldable pub part : ℕ → Word Γ → Word Γ
  part m w = share (label w) m w
