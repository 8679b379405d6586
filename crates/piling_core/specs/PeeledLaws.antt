-- For callers: a whole piling can be peeled, and what is left of a reduced word is its core, in whatever order its
-- pairs were taken off. Read off, it is the core's normal form.
use Rattle.std.specs.Prelude.{ℕ, ◌*◌, ◌≤◌, ◌≡◌, refl, List, reverse, length, take}
use Rattle.std.proofs.Common.{arith}
use Rattle.std.proofs.lemmas.List.{length-reverse}
use Rattle.theory_words.specs.All.{All}
use Rattle.theory_words.specs.Trace.{◌~◌}
use Rattle.theory_words.specs.Group.{◌≈◌, Reduced, then, back}
use Rattle.theory_words.specs.GroupLaws.{~→≈}
use Rattle.theory_words.specs.Reduce.{reduce}
use Rattle.theory_words.specs.ReduceLaws.{reduce-≈, reduce_reduced, reduced_~}
use Rattle.theory_words.specs.Normal.{lex, nf}
use Rattle.theory_words.specs.NormalLaws.{lex_sorts, sorts_nf}
use Rattle.theory_conjugacy.specs.Core as Core
use Rattle.theory_conjugacy.specs.Core.{core}
use Rattle.theory_conjugacy.specs.CoreLaws.{cores_core, cores_reduced}
use Rattle.input_chains.specs.Conflicts.{Conflicts}
use Rattle.spec.specs.Letters.{alphabet}
use Rattle.input_plan.specs.Lettered.{Lettered}
use Rattle.array_counts.specs.Blank.{blank_heights}
use Rattle.piling_stacks.specs.Piling.{Piled}
use Rattle.piling_read.specs.PiledLaws.{piled_left}
use Rattle.piling_core.specs.Peeling.{Peelable, Peeled}

pub piled_peelable : {c : List ℕ} {conflicts rows : List (List ℕ)} {heights z : List ℕ} (lead : List ℕ)
    → Conflicts c conflicts → Piled c rows heights z → All Lettered z → length z ≤ 2 * length lead
    → Peelable c conflicts rows heights blank_heights (reverse z) lead
piled_peelable {z = z} lead t p h l =
    record { table = t; left = piled_left p h; fits = omega (arith, length-reverse z) }

module _ {c : List ℕ} {rows : List (List ℕ)} {x before heights at lead : List ℕ} {r : ℕ} {z : List ℕ}
    (p : Peeled c rows x before heights at lead r z) (d : Reduced (alphabet c) x) where
  peeled_reduced : Reduced (alphabet c) z
  peeled_reduced = cores_reduced (alphabet c) p.cores d

  module _ (w : List ℕ) (e : ◌≈◌ (alphabet c) x w) where
    -- what is left is the core of every equal word, and what was taken off in front its lead
    pub peeled_core : (◌~◌ (alphabet c) z (core (alphabet c) w))
        × (◌~◌ (alphabet c) (take r lead) (Core.lead (alphabet c) w))
    peeled_core =
        let s : ◌~◌ (alphabet c) x (reduce (alphabet c) w)
        = reduced_~ (alphabet c) x (reduce (alphabet c) w) d (reduce_reduced (alphabet c) w)
        (then e (back (reduce-≈ (alphabet c) w))) in
        cores_core (alphabet c) w s p.cores

    pub peeled_normal : lex (alphabet c) (length z) z ≡ nf (alphabet c) (core (alphabet c) w)
    peeled_normal =
        sorts_nf (alphabet c) (lex_sorts (alphabet c) (length z) z refl) peeled_reduced
        (~→≈ (alphabet c) peeled_core.0)
