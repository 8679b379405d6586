-- The form of a plan that is wanted, the normal form or that of its core, and what writing it yields.
use Rattle.std.specs.Prelude.{ℕ, ◌≡◌, Bool, true, false, List, length}
use Rattle.spec.specs.Letters.{normal_form}
use Rattle.piling_read.specs.Reading.{Left}
use Rattle.piling_core.specs.Peeling.{Peelable, Peeled}
use Rattle.spec.specs.Calls.{core_form}

-- of a plan: the normal form, or that of its core
abbrev pub form : Bool → List ℕ → List ℕ → List ℕ
form true = core_form
form false = normal_form

-- pairs can be taken off x into any row for the letters of the longest plan
abbrev pub Whole : List ℕ → (conflicts rows : List (List ℕ)) → List ℕ → List ℕ → List ℕ → Type 0
Whole c conflicts rows heights at x =
    (lead : List ℕ) → 512 ≡ length lead → Peelable c conflicts rows heights at x lead

-- what is left of x: z, when pairs are taken off, where the core is wanted; else all of it
pub data Remains (c : List ℕ) (rows : List (List ℕ)) (x heights at : List ℕ) : Bool → List ℕ → Type 0 where
  peeled : {before lead : List ℕ} {r : ℕ} {z : List ℕ} → Peeled c rows x before heights at lead r z
      → Remains c rows x heights at true z
  whole : Left rows heights c at x → Remains c rows x heights at false x
