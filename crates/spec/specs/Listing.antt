-- The output of the program loops (docs/MANUAL.md, "Program"): the line `loops 1`, then `joined c`, or `apart`, or
-- `refused`, number, plan and place, with single spaces, in decimal; each line ends with a newline.
use Rattle.std.specs.Prelude.{ℕ, ◌+◌, ◌*◌, ◌<◌, List, [], ◌∷◌, ◌++◌, Result}
use Rattle.std.specs.Prelude as rust
use Prim.Native.Char.{code}
use Prim.Native.String.{String, [] as nothing, ◌∷◌ as ◌then◌}
use Rattle.std.proofs.Math.Option.{Option, none, some}
use Rattle.spec.specs.Table.{Line, Answer, refused, given}
use Rattle.spec.specs.Answers.{told, told_option}
use Rattle.spec.specs.declared.Refusal.{Refusal}

-- the characters' codes
abbrev pub bytes : String → List ℕ
bytes nothing = []
bytes (c then s) = code c ∷ bytes s

-- n in decimal, in as few digits as can be; the digit d has the code 48 + d
pub data Decimal : ℕ → List ℕ → Type 0 where
  digit : {d : ℕ} → d < 10 → Decimal d ((48 + d) ∷ [])
  more : {n d : ℕ} {t : List ℕ} → 0 < n → d < 10 → Decimal n t → Decimal (10 * n + d) (t ++ (48 + d) ∷ [])

-- the line of a verdict: joined with so many letters in the core, apart, or a refusal
pub data Shows : Answer (Option ℕ) → List ℕ → Type 0 where
  joined : {c : ℕ} {t : List ℕ} → Decimal c t → Shows (given (some c)) (bytes "joined " ++ t)
  apart : Shows (given none) (bytes "apart")
  refuses : {l : Line} {n p i : List ℕ} → Decimal l.number n → Decimal l.plan p → Decimal l.place i
      → Shows (refused l) (bytes "refused " ++ n ++ bytes " " ++ p ++ bytes " " ++ i)

-- the whole output
pub data Printed (a : Answer (Option ℕ)) : List ℕ → Type 0 where
  printed : {t : List ℕ} → Shows a t → Printed a (bytes "loops 1\n" ++ t ++ bytes "\n")

-- the verdict of the program: so many letters in the core of two loops that are joined, nothing of two that are apart
abbrev pub told_verdict : Result (rust.Option ℕ) Refusal → Answer (Option ℕ)
told_verdict = told told_option
