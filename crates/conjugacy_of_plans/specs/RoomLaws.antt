-- The room that the word from one plan to another needs in the row.
use Rattle.std.specs.Prelude.{ℕ, ◌+◌, ◌*◌, ◌≤◌, ◌≡◌, List, length}
use Rattle.std.proofs.Common.{arith, mul-le-mul_right, ap}
use Rattle.spec_laws.specs.LettersLaws.{letters-length}
use Rattle.conjugacy_of_parts.specs.declared.Outcome.{Outcome}
use Rattle.conjugacy_by_cores.specs.CoreAndLeadLaws.{off_length}
use Rattle.conjugacy_by_cores.specs.Join.{Cores, word_room, FormRoom, PlansRoom, PlansOutcome}

module _ {c : List ℕ} {conflicts : List (List ℕ)} {v w x g y h : List ℕ}
    (k : Cores c conflicts v w x g y h) where
  abbrev all : ℕ
  all = (2 * length g + length x) + (2 * length h + length y)

  pub cores_all : all ≤ 2048
  cores_all = omega (
    arith,
    off_length c k.first,
    off_length c k.second,
    letters-length v,
    letters-length w,
    k.plans.first.short,
    k.plans.second.short,
  )

  module _ {n : ℕ} {area : List ℕ} (r : PlansRoom c v w n area) where
    -- the room as it is computed
    cores_need : n * all ≡ word_room c x g y h
    cores_need = ap (λ m. m * all) r.many

    pub cores_room : n * all ≤ 49152
    cores_room =
        let a : word_room c x g y h ≤ 24 * all = mul-le-mul_right all k.plans.first.few in
        omega (arith, a, cores_all, cores_need)

    form_room : {m : ℕ} → n * all ≤ m → FormRoom c conflicts v w x g y h m area
    form_room l = record { cores = k; word = omega (arith, cores_need); form = r.form }

-- a row as long as that: what is asked of it, and what is told of the plans

module _ {conflicts : List (List ℕ)} {x g y h : List ℕ} {n m : ℕ} {area : List ℕ}
    (l : n * ((2 * length g + length x) + (2 * length h + length y)) ≤ m) where
  pub row_asked : (c : List ℕ) × (v : List ℕ) × (w : List ℕ) × Cores c conflicts v w x g y h × PlansRoom c v w n area
      → (c : List ℕ) × (v : List ℕ) × (w : List ℕ) × FormRoom c conflicts v w x g y h m area
  row_asked (c, v, w, k, r) = (c, v, w, form_room k r l)

  pub row_told : {o : Outcome} {after : List ℕ}
      → ((c v w : List ℕ) → FormRoom c conflicts v w x g y h m area → PlansOutcome c v w area o after)
      → (c v w : List ℕ) → Cores c conflicts v w x g y h → PlansRoom c v w n area → PlansOutcome c v w area o after
  row_told f c v w k r = f c v w (form_room k r l)
