-- The law of the set test: a line of conflicts and a set, gathered as bits, share no bit exactly if the line names no
-- command in the set.
use Rattle.std.specs.Prelude.{ℕ, ◌≡◌, List, ◌↔◌}
use Rattle.std.proofs.Common.{arith}
use Rattle.std.specs.Int.Bits.{bit_and}
use Rattle.spec.specs.Bits.{Gathered}
use Rattle.spec_laws.specs.BitsLaws.{share_none}
use Rattle.array_sets.specs.Sets.{Clear, Meeting}
use Rattle.array_sets.specs.SetsLaws.{size_most}

pub clear_by_bits : {rows : List (List ℕ)} {line s : List ℕ} {a b : ℕ} → Meeting rows s
    → Gathered 1 1 line a → Gathered 32768 65535 s b → (bit_and a b ≡ 0) ↔ Clear line s
clear_by_bits m g h =
    let (to, from) = share_none g h in
    let few = size_most m.size in (
      λ e j l o i. to e j (l, omega arith, omega arith) (l, i, omega (arith, m.most j l, few, m.wide)),
      λ f. from (λ j v w. f j v.0 (omega (arith, v.1, v.2)) w.1),
    )
