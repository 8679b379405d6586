-- Settling a word on an apex, its largest command: the word is split as p0 then p1, where p1 is every letter that is
-- an apex letter or must stay after one, and while p0 is not empty the word is replaced by p1 then p0. The manual
-- calls the settled word in normal form a ring; a settled word is a pyramid with its apex first.
use Rattle.std.specs.Prelude.{ℕ, zero, suc, ◌≡◌, Bool, true, false, ◌||◌, List, [], ◌∷◌, ◌++◌, length, eqb}
use Rattle.theory_words.specs.Alphabet.{Alphabet, Word}
use Rattle.theory_words.specs.Filter.{keep_if}
use Rattle.theory_words.specs.Normal.{meets, lex}

-- the commands raised once the letters of a word have gone up too
unfoldable pub raise : (Γ : Alphabet) → List ℕ → Word Γ → List ℕ
raise Γ R [] = R
raise Γ R (b ∷ q) = raise Γ (Γ.cmd b ∷ R) q

module _ (Γ : Alphabet) (m : ℕ) where
  open Γ use {Letter, cmd}

  -- b is an apex letter, or its command conflicts with a raised one: it belongs to p1
  unfoldable pub hit : List ℕ → Letter → Bool
  hit R b = eqb (cmd b) m || meets Γ (cmd b) R

  unfoldable pub put : Bool → Letter → Word Γ × Word Γ → Word Γ × Word Γ
  put true b s = (s.0, b ∷ s.1)
  put false b s = (b ∷ s.0, s.1)

  -- p0 and p1, in one scan; R holds the commands raised so far
  unfoldable pub split : List ℕ → Word Γ → Word Γ × Word Γ
  split R [] = ([], [])
  split R (b ∷ w) = put (hit R b) b (split (keep_if (hit R b) (cmd b) R) w)

  -- the word reached after at most n rounds
  unfoldable pub settled_step : Word Γ → Word Γ → Word Γ → (Word Γ → Word Γ) → Word Γ
  settled_step w [] q again = w
  settled_step w (b ∷ p) q again = again (q ++ b ∷ p)

  unfoldable pub settled : ℕ → Word Γ → Word Γ
  settled zero w = w
  settled (suc n) w = settled_step w (split [] w).0 (split [] w).1 (settled n)

  -- the letters that these rounds move from the front to the end, in that order
  unfoldable pub cycled_step : Word Γ → Word Γ → (Word Γ → Word Γ) → Word Γ
  cycled_step [] q again = []
  cycled_step (b ∷ p) q again = b ∷ p ++ again (q ++ b ∷ p)

  unfoldable pub cycled : ℕ → Word Γ → Word Γ
  cycled zero w = []
  cycled (suc n) w = cycled_step (split [] w).0 (split [] w).1 (cycled n)

  -- how many rounds, of at most n, it takes to settle the word
  unfoldable pub counted_step : Word Γ → Word Γ → (Word Γ → ℕ) → ℕ
  counted_step [] q again = zero
  counted_step (b ∷ p) q again = suc (again (q ++ b ∷ p))

  unfoldable pub counted : ℕ → Word Γ → ℕ
  counted zero w = zero
  counted (suc n) w = counted_step (split [] w).0 (split [] w).1 (counted n)

  -- the settled word in normal form
  unfoldable pub ring : ℕ → Word Γ → Word Γ
  ring n w = lex Γ (length (settled n w)) (settled n w)

  -- w is split as p then q, behind letters of the commands R
  pub data Split : List ℕ → Word Γ → Word Γ → Word Γ → Type 0 where
    stop : {R : List ℕ} → Split R [] [] []
    up : {R : List ℕ} {b : Letter} {w p q : Word Γ} → hit R b ≡ true → Split (cmd b ∷ R) w p q
        → Split R (b ∷ w) p (b ∷ q)
    low : {R : List ℕ} {b : Letter} {w p q : Word Γ} → hit R b ≡ false → Split R w p q → Split R (b ∷ w) (b ∷ p) q

  -- w is settled after exactly n rounds, which cycle the letters g and reach r
  pub data Rounded : ℕ → Word Γ → Word Γ → Word Γ → Type 0 where
    quiet : {w q : Word Γ} → Split [] w [] q → Rounded zero w [] w
    round : {n : ℕ} {b : Letter} {w p q g r : Word Γ} → Split [] w (b ∷ p) q → Rounded n (q ++ b ∷ p) g r
        → Rounded (suc n) w (b ∷ p ++ g) r
