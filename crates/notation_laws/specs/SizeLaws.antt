-- The plan written out has the length that its size tells.
use Rattle.std.specs.Prelude.{ℕ, zero, suc, ◌*◌, ◌≡◌, refl, Bool, true, false, List, map, length}
use Rattle.std.proofs.Common.{◌∙◌, ap, arith, suc-mul, length-append}
use Rattle.std.proofs.lemmas.List.{length-map, length-reverse}
use Rattle.spec.specs.Byte.{undone}
use Rattle.spec.specs.Notation.{Items, empty, command, group, signed_plan, repeated, plan_of, size_of}

signed_length : (u : Bool) (v : List ℕ) → length (signed_plan u v) ≡ length v
signed_length false v = refl
signed_length true v = length-reverse (map undone v) ∙ length-map v undone

pub repeated-length : (n : ℕ) (v : List ℕ) → length (repeated n v) ≡ n * length v
unfolding repeated
repeated-length zero v = omega arith
repeated-length (suc n) v = length-append v (repeated n v) ∙ rw (repeated-length n v, suc-mul) (omega arith)

pub size_exact : (t : Items) → length (plan_of t) ≡ size_of t
unfolding plan_of size_of
size_exact empty = refl
size_exact (command u k l t) = ap suc (size_exact t)
size_exact (group u g n t) =
    length-append (signed_plan u (repeated n (plan_of g))) (plan_of t)
    ∙ rw (signed_length u (repeated n (plan_of g)), repeated-length n (plan_of g), size_exact g, size_exact t)
