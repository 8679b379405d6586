-- The goals of `array_sets::independent` that the check leaves.
use Rattle.std.proofs.Common.{bit_and, eqb-true, eq-eqb}
use Rattle.array_sets.specs.TestLaws.{clear_by_bits}
use Rattle.array_sets.proofs.independent.Goals as goal

pub returns : goal.returns
returns c =
    let s = c.requires.1 in
    let shared = bit_and c.gather-against.result c.gather-inside.result in
    let (to, from) = clear_by_bits s c.gather-against.ensures c.gather-inside.ensures in
    (λ e. to (eqb-true shared 0 e), λ f. eq-eqb shared 0 (from f))
