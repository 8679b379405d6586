-- A plan's bytes with fillers in place of letters, and the letters that are left of it.
use Rattle.std.specs.Prelude.{ℕ, ◌+◌, ◌-◌, ◌<◌, ◌≤◌, ◌≡◌, Bool, true, false, List, [], ◌∷◌, reverse, length, get_or, set, take, eqb}
use Rattle.theory_words.specs.All.{All}
use Rattle.theory_words.specs.Trace.{◌~◌}
use Rattle.theory_words.specs.Trim as Trim
use Rattle.theory_conjugacy.specs.Core.{Cores}
use Rattle.spec.specs.Byte.{command_of}
use Rattle.spec.specs.Letters.{letters, alphabet}
use Rattle.spec.specs.Pairs.{pair_numbers}
use Rattle.input_plan.specs.Lettered.{Lettered}
use Rattle.piling_stacks.specs.Pile.{reduced}

-- fillers at these places
unfoldable pub blanked : List ℕ → List ℕ → List ℕ
blanked w [] = w
blanked w (p ∷ ps) = blanked (set w p 0) ps

-- the sum of numbers
unfoldable pub total : List ℕ → ℕ
total [] = 0
total (n ∷ ns) = n + total ns

-- of b, then what follows: no letter of its command is to go, and b stays, or b goes
abbrev pub trimmed_step : Bool → ℕ → List ℕ → List ℕ → List ℕ
trimmed_step true b kept cut = b ∷ kept
trimmed_step false b kept cut = 0 ∷ cut

-- one less of command k
abbrev pub lowered : List ℕ → ℕ → List ℕ
lowered n k = set n k (get_or n k 0 - 1)

-- fillers in place of the first letters of each command k, as many as the number at k says
unfoldable pub trimmed : List ℕ → List ℕ → List ℕ
trimmed n [] = []
trimmed n (b ∷ w) =
    let k = command_of b in trimmed_step (eqb (get_or n k 0) 0) b (trimmed n w) (trimmed (lowered n k) w)

-- the number at k is that of a word's letters of command k, and all are that of its letters
pub record Tallied (word counts : List ℕ) : Type 0 where
  pub many : length counts ≡ 128
  pub all : total counts ≡ length word
  pub each : (c : List ℕ) (k : ℕ) → get_or counts k 0 ≡ Trim.tally (alphabet c) word k

-- the letters of a word now stand at its start, n in number
pub record Closed (before after : List ℕ) (n : ℕ) : Type 0 where
  pub letters : take n after ≡ letters before
  pub fits : n ≤ length after

-- what is left of a word of letters when pairs are taken off it, these letters in front, is now its word, up to swaps
abbrev pub TakenOff : List ℕ → List ℕ → List ℕ → Type 0
TakenOff off before after = (c z : List ℕ) → All Lettered (letters before)
    → Cores (alphabet c) (letters before) off z → ◌~◌ (alphabet c) (letters after) z

-- the places of the plan's pairs, and the letters taken off in front when pairs are taken off what they leave
pub record Known (c plan places off z : List ℕ) : Type 0 where
  pub numbers : places ≡ pair_numbers c plan
  pub cores : Cores (alphabet c) (reverse (reduced c plan)) off z
  pub lettered : All Lettered (reduced c plan)
  pub short : length off < 65536

-- an area now starts with the letters of z, n in number, up to swaps
pub record Left (c z after : List ℕ) (n : ℕ) : Type 0 where
  pub letters : ◌~◌ (alphabet c) (take n after) z
  pub fits : n ≤ length after
