-- The bytes of a plan (docs/MANUAL.md, "Plan"), and lines 7 and 8 of the manual's table.
-- Byte k, 1 to N, does command k; byte 128 + k undoes it; byte 0 is a filler.
use Rattle.std.specs.Prelude.{ℕ, ◌+◌, ◌≡◌, Bool, true, not, ◌||◌, List, [], ◌∷◌, length, get_or, ltb, eqb}
use Rattle.std.proofs.Math.Option.{Option}
use Rattle.spec.specs.Table.{Line, line, holds, first_of, line_at}
use Rattle.spec.specs.Catalogue.{within}

-- with N commands: 1 to N, or 129 to 128 + N
unfoldable pub is_command : ℕ → ℕ → Bool
is_command n b = within 1 n b || within 129 (128 + n) b

-- what line 8 lets pass
unfoldable pub passes : ℕ → ℕ → Bool
passes n b = eqb b 0 || is_command n b

-- line 7: plan p has over `limit` bytes
abbrev pub long_line : ℕ → ℕ → List ℕ → Option Line
long_line p limit v = holds (ltb limit (length v)) (line 7 p 0)

-- the place of the first byte that does not pass
abbrev pub first_bad : ℕ → List ℕ → Option ℕ
first_bad n v = first_of (λ i. not (passes n (get_or v i 0))) (length v) 0

-- line 8: plan p has a byte that does not pass, at the first such place
abbrev pub byte_line : ℕ → ℕ → List ℕ → Option Line
byte_line p n v = line_at 8 p (λ i. i) (first_bad n v)

abbrev pub plan_lines : ℕ → ℕ → ℕ → List ℕ → List (Option Line)
plan_lines p limit n v = long_line p limit v ∷ byte_line p n v ∷ []

-- every byte passes
abbrev pub Passing : ℕ → List ℕ → Type 0
Passing n [] = Unit {0}
Passing n (b ∷ v) = (passes n b ≡ true) × Passing n v
