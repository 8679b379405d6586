-- The stacks of a word in one row: the letters of one command are linked places of the row, the first letter on top.
-- Blanks are not stored: the height of a stack, and the mark that each letter has, tell how many there are.
use Rattle.std.specs.Prelude.{ℕ, suc, ◌+◌, ◌<◌, ◌≤◌, ◌≡◌, List, [], ◌∷◌, length, get_or}
use Rattle.theory_words.specs.All.{All}
use Rattle.theory_words.specs.Stack.{proj}
use Rattle.input_plan.specs.Lettered.{Lettered}
use Rattle.spec.specs.Letters.{alphabet}
use Rattle.long_stacks.specs.declared.LinkedStacks.{LinkedStacks}

-- A stack is one higher than its beads are many, so that its height is not 0.
abbrev pub height : List ℕ → ℕ
height bs = length bs + 1

module _ (word under link : List ℕ) (i : ℕ) where
  -- A stack given by its uppermost letter: its place plus 1, and its mark, the height of the stack up to it. Both are 0
  -- where the stack has no letter. Every place of the stack is i or later.
  pub data Linked : ℕ → ℕ → List ℕ → Type 0 where
    bottom : Linked 0 0 []
    blank : {t m : ℕ} {bs : List ℕ} → Linked t m bs → Linked t m (0 ∷ bs)
    letter : {p : ℕ} {bs : List ℕ} → i ≤ p → p < length word → ¬ (get_or word p 0 ≡ 0)
        → Linked (get_or link p 0) (get_or under p 0) bs
        → Linked (suc p) (height (get_or word p 0 ∷ bs)) (get_or word p 0 ∷ bs)

-- under catalogue c, the arrays hold the stacks of the word x, whose letters stand at place i or later
pub record Stacks {n : ℕ} (c word : List ℕ) (s : LinkedStacks n) (i : ℕ) (x : List ℕ) : Type 0 where
  pub short : length word ≤ 50176
  pub unders : length word ≤ length s.under
  pub links : length word ≤ length s.link
  pub topped : length s.tops ≡ 24
  pub marked : length s.marks ≡ 24
  pub measured : length s.heights ≡ 24
  pub room : i + length x ≤ length word
  pub letters : All Lettered x
  pub linked : (k : ℕ) → k < 24
      → Linked word s.under s.link i (get_or s.tops k 0) (get_or s.marks k 0) (proj (alphabet c) 0 (k + 1) x)
  pub high : (k : ℕ) → k < 24 → get_or s.heights k 0 ≡ height (proj (alphabet c) 0 (k + 1) x)

-- a letter is on top of the stack of command k + 1: its mark is the height
abbrev pub LetterOnTop : {n : ℕ} → LinkedStacks n → ℕ → Type 0
LetterOnTop s k = get_or s.marks k 0 ≡ get_or s.heights k 0
