-- 24 numbers of 16 bits as six words of 64 bits.
use Rattle.std.specs.Prelude.{ℕ, ◌+◌, ◌*◌, ◌<◌, ◌/◌, ◌%◌, ◌≡◌, Bool, true, false, List, [], length, get_or}

-- four numbers as one word, the first lowest
abbrev pub four : ℕ → ℕ → ℕ → ℕ → ℕ
four a b c d = a + 65536 * (b + 65536 * (c + 65536 * d))

-- the word of the four numbers from place i on
abbrev pub word_at : List ℕ → ℕ → ℕ
word_at numbers i =
    four (get_or numbers i 0) (get_or numbers (i + 1) 0) (get_or numbers (i + 2) 0) (get_or numbers (i + 3) 0)

-- six words and a line of 24 numbers, with P at each word
pub record Fits (P : ℕ → ℕ → Type 0) (words line : List ℕ) : Type 0 where
  pub six : length words ≡ 6
  pub wide : length line ≡ 24
  pub holds : (i : ℕ) → i < 6 → P (get_or words i 0) (word_at line (4 * i))

-- each last word is f of the first and of the line's word
pub record Combined (f : ℕ → ℕ → ℕ) (line first last : List ℕ) : Type 0 where
  pub kept : length last ≡ length first
  pub each : (i : ℕ) → i < 6 → get_or last i 0 ≡ f (get_or first i 0) (word_at line (4 * i))

-- each last word is one that R allows for the first and the line's word
pub record CombinedBy (R : ℕ → ℕ → ℕ → Type 0) (line first last : List ℕ) : Type 0 where
  pub kept : length last ≡ length first
  pub each : (i : ℕ) → i < 6 → R (get_or first i 0) (word_at line (4 * i)) (get_or last i 0)

-- the numbers from place i on are now those of the word, and those before it are as they were
pub record Spread (first : List ℕ) (i word : ℕ) (last : List ℕ) : Type 0 where
  pub kept : length last ≡ length first
  pub before : (m : ℕ) → m < i → get_or last m 0 ≡ get_or first m 0
  pub one : get_or last i 0 ≡ word % 65536
  pub two : get_or last (i + 1) 0 ≡ word / 65536 % 65536
  pub three : get_or last (i + 2) 0 ≡ word / 65536 / 65536 % 65536
  pub last_one : get_or last (i + 3) 0 ≡ word / 65536 / 65536 / 65536 % 65536

-- the words are those of the numbers that g gives, each below 65,536
pub record WordsOf (g : ℕ → ℕ) (words : List ℕ) : Type 0 where
  pub small : (m : ℕ) → m < 24 → g m < 65536
  pub each : (i : ℕ) → i < 6
      → get_or words i 0 ≡ four (g (4 * i)) (g (4 * i + 1)) (g (4 * i + 2)) (g (4 * i + 3))

-- the numbers of the words are written
pub record Written (words first last : List ℕ) : Type 0 where
  pub kept : length last ≡ length first
  pub told : (g : ℕ → ℕ) → WordsOf g words → (m : ℕ) → m < 24 → get_or last m 0 ≡ g m

-- 24 numbers of 16 bits
pub record Small (numbers : List ℕ) : Type 0 where
  pub many : length numbers ≡ 24
  pub small : (m : ℕ) → m < 24 → get_or numbers m 0 < 65536

-- the words hold the numbers
pub record Held (numbers words : List ℕ) : Type 0 where
  pub many : length numbers ≡ 24
  pub six : length words ≡ 6
  pub those : WordsOf (λ m. get_or numbers m 0) words

-- a one at k, and nothing else
pub record Sole (k : ℕ) (line : List ℕ) : Type 0 where
  pub own : get_or line k 0 ≡ 1
  pub others : (j : ℕ) → j < 24 → ¬ (j ≡ k) → get_or line j 0 ≡ 0

abbrev pub Unless : Bool → Type 0 → Type 0
Unless b P = b ≡ false → P

-- line k of a table, which is sole if that is told, and numbers that the words hold if it is not
pub record Changeable (k : ℕ) (sole : Bool) (table : List (List ℕ)) (numbers held : List ℕ) : Type 0 where
  pub within : k < 24
  pub tall : length table ≡ 24
  pub told : sole ≡ true → Sole k (get_or table k [])
  pub kept : Unless sole (Held numbers held)
