-- `piling_pairs::paired` meets its contract: nothing is written, or a pair behind the others, for which there is room.
use Prim.Native.Nat.{ℕ}
use native.Mathlib.Omega.{arith}
use mathlib.Core.Path.{ap}
use lib.ListN.{length-set}
use Rattle.piling_pairs.specs.Places.{told_step}
use Rattle.piling_pairs.specs.Pairing.{nothing, one}
use Rattle.piling_pairs.proofs.paired.Goals as goal

pub overflow_mul-pairs : goal.overflow_mul-pairs
overflow_mul-pairs c =
    omega (arith, c.requires c.in-Some.earlier (ap told_step c.in-Some.is), c.well_formed)

pub offset_bounds-pairs-n : goal.offset_bounds-pairs-n
offset_bounds-pairs-n c =
    omega (arith, c.requires c.in-Some.earlier (ap told_step c.in-Some.is), c.well_formed)

pub bounds-pairs-n : goal.bounds-pairs-n
bounds-pairs-n c = omega (arith, c.requires c.in-Some.earlier (ap told_step c.in-Some.is))

pub overflow_mul-pairs-in-Some : goal.overflow_mul-pairs-in-Some
overflow_mul-pairs-in-Some c =
    omega (arith, c.requires c.in-Some.earlier (ap told_step c.in-Some.is), c.well_formed)

pub overflow_add-pairs : goal.overflow_add-pairs
overflow_add-pairs c =
    omega (arith, c.requires c.in-Some.earlier (ap told_step c.in-Some.is), c.well_formed)

pub offset_bounds-pairs-n-in-Some : goal.offset_bounds-pairs-n-in-Some
offset_bounds-pairs-n-in-Some c =
    omega (arith, c.requires c.in-Some.earlier (ap told_step c.in-Some.is), c.well_formed)

pub bounds-pairs-n-in-Some : goal.bounds-pairs-n-in-Some
bounds-pairs-n-in-Some c =
    omega (arith, c.requires c.in-Some.earlier (ap told_step c.in-Some.is), length-set {A = ℕ})

pub overflow_add-result : goal.overflow_add-result
overflow_add-result c =
    omega (arith, c.requires c.in-Some.earlier (ap told_step c.in-Some.is), c.well_formed)

pub returns-in-None : goal.returns-in-None
returns-in-None c = rw c.in-None.is nothing

pub returns-in-Some : goal.returns-in-Some
returns-in-Some c = rw c.in-Some.is one
