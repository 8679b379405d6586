-- A smaller command has the smaller rank, so what is smaller by commands stands earlier in the manual's order.
use Rattle.std.specs.Prelude.{ℕ, ◌+◌, ◌*◌, ◌/◌, ◌<◌, ◌≤◌, ◌≡◌, true, List, ◌⊎◌, eqb}
use Rattle.std.proofs.Common.{inl, inr, arith, eqb-true}
use Rattle.theory_words.specs.Normal as Normal
use Rattle.theory_words.specs.Normal.{Smaller}
use Rattle.spec.specs.Plan.{is_command, passes, Passing}
use Rattle.spec.specs.Byte.{command_of}
use Rattle.spec_laws.specs.CommandLaws.{Said, done, back, said, passes_cases}
use Rattle.spec.specs.Letters.{alphabet}
use Rattle.spec.specs.Order.{Earlier, at, on}

pub passes_byte : (n b : ℕ) → n ≤ 127 → passes n b ≡ true → b < 256
passes_byte n b m e = go (passes_cases n b e)
  where
    from : Said n b → b < 256
    from (done l h) = omega arith
    from (back l h) = omega arith

    go : (eqb b 0 ≡ true) ⊎ (is_command n b ≡ true) → b < 256
    go (inl z) = let k = eqb-true b 0 z in omega arith
    go (inr k) = from (said n b k)

half_le : (b : ℕ) → b < 256 → b / 128 ≤ 1
half_le b h = omega arith

rank_less : (j k s t : ℕ) → s ≤ 1 → j < k → 2 * j + s < 2 * k + t
rank_less j k s t h l = omega arith

pub smaller_earlier : (c : List ℕ) (n : ℕ) {v w : List ℕ} → n ≤ 127 → Passing n v
    → Smaller (alphabet c) v w → Earlier v w
smaller_earlier c n m h (Normal.at {a = a} {b = b} l) =
    at (rank_less (command_of a) (command_of b) (a / 128) (b / 128) (half_le a (passes_byte n a m h.0)) l)
smaller_earlier c n m h (Normal.on e) = on (smaller_earlier c n m h.1 e)
