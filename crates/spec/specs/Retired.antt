-- Line 10 of the manual's table, retired: no bytes as catalogue and plans reach it (RetiredDemand in Demands). Its
-- number is not used again, and nothing but that demand speaks of it.
use Rattle.std.specs.Prelude.{ℕ, Bool, true, false, not, ◌||◌, List, [], ◌∷◌}
use Rattle.std.proofs.Math.Option.{Option}
use Rattle.spec.specs.Table.{Line, line, holds}
use Rattle.theory_conjugacy.specs.Core.{core}
use Rattle.theory_conjugacy.specs.Part.{apexes, part}
use Rattle.theory_conjugacy.specs.Settle.{split, settled}
use Rattle.spec.specs.Catalogue.{commands}
use Rattle.spec.specs.Letters.{letters, alphabet}

unfoldable pub is_empty : List ℕ → Bool
is_empty [] = true
is_empty (b ∷ v) = false

-- after N rounds some part of x, among those with these apexes, still has a letter before its apex letters
unfoldable pub unsettled : List ℕ → List ℕ → List ℕ → Bool
unsettled c [] x = false
unsettled c (m ∷ ms) x =
    not (is_empty (split (alphabet c) m [] (settled (alphabet c) m (commands c) (part (alphabet c) m x))).0)
    || unsettled c ms x

-- line 10: a part of the core of plan p is unsettled after N rounds
abbrev pub unsettled_line : ℕ → List ℕ → List ℕ → Option Line
unsettled_line p c v =
    let x = core (alphabet c) (letters v) in
    holds (unsettled c (apexes (alphabet c) x) x) (line 10 p 0)

-- the same of two plans
abbrev pub unsettled_lines : List ℕ → List ℕ → List ℕ → List (Option Line)
unsettled_lines c v w = unsettled_line 1 c v ∷ unsettled_line 2 c w ∷ []
