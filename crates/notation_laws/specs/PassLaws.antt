-- The plan that items write out passes line 8 where none of their commands is above N.
use Rattle.std.specs.Prelude.{ℕ, zero, suc, ◌≤◌, ◌≡◌, Bool, true, false, List, [], ◌∷◌, ltb}
use Rattle.std.proofs.Common.{append-nil, ltb-false}
use Rattle.std.proofs.Math.Option.{none}
use Rattle.spec_laws.specs.SearchLaws.{found_step_none}
use Rattle.spec.specs.Plan.{passes, Passing}
use Rattle.spec_laws.specs.PlanLaws.{passes_low, passing_append}
use Rattle.spec_laws.specs.JoinLaws.{undone_passing}
use Rattle.spec.specs.Notation.{Items, empty, command, group, first_above}
use Rattle.notation_laws.specs.FirstLaws.{first-none}
use Rattle.spec.specs.Notation.{signed_byte, signed_plan, repeated, plan_of}

signed_passing : (n : ℕ) (u : Bool) (v : List ℕ) → Passing n v → Passing n (signed_plan u v)
signed_passing n false v h = h
signed_passing n true v h = rw append-nil at (undone_passing n v [] h tt)

byte_passes : (n : ℕ) (u : Bool) (k : ℕ) → k ≤ n → passes n (signed_byte u k) ≡ true
byte_passes n false k h = passes_low n k h
byte_passes n true k h = (signed_passing n true (k ∷ []) (passes_low n k h, tt)).0

repeated_passing : (n c : ℕ) (v : List ℕ) → Passing n v → Passing n (repeated c v)
unfolding repeated
repeated_passing n zero v h = tt
repeated_passing n (suc c) v h = passing_append n v (repeated c v) h (repeated_passing n c v h)

pub written_passing : (n : ℕ) (t : Items) → first_above n t ≡ none → Passing n (plan_of t)
unfolding first_above plan_of
written_passing n empty e = tt
written_passing n (command u k l t) e =
    let (h, r) = found_step_none (ltb n k) l e in
    (byte_passes n u k (ltb-false n k h), written_passing n t r)
written_passing n (group u g c t) e =
    let (h, r) = first-none (first_above n g) (first_above n t) e in
    passing_append n (signed_plan u (repeated c (plan_of g))) (plan_of t)
    (signed_passing n u (repeated c (plan_of g)) (repeated_passing n c (plan_of g) (written_passing n g h)))
    (written_passing n t r)
