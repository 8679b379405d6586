-- A whole piling, with every bottom at 0, has left the word piled up.
use Rattle.std.specs.Prelude.{ℕ, ◌+◌, List, [], reverse, get_or}
use Rattle.std.proofs.Common.{◌∙◌, ap, arith}
use Rattle.std.proofs.Math.Seq.{slice}
use Rattle.theory_words.specs.All.{All, all_reverse}
use Rattle.theory_words.specs.StackLaws.{stack_read}
use Rattle.spec.specs.Letters.{alphabet}
use Rattle.input_plan.specs.Lettered.{Lettered}
use Rattle.array_counts.specs.Blank.{blank_heights}
use Rattle.array_counts.specs.BlankLaws.{blank_zero, blank_many}
use Rattle.piling_stacks.specs.Piling.{Piled}
use Rattle.piling_stacks.specs.BeadsLaws.{beads_fit}
use Rattle.piling_stacks.specs.PilingLaws.{piled_beads}
use Rattle.piling_read.specs.Reading.{Left}

module _ {c : List ℕ} {rows : List (List ℕ)} {heights z : List ℕ} (p : Piled c rows heights z)
    (h : All Lettered z) where
  pub piled_left : Left rows heights c blank_heights (reverse z)
  piled_left = record {
    room = record {
      shape = p.shape;
      many = blank_many;
      low = λ i l. omega (arith, blank_zero i l);
      high = λ i l. beads_fit (piled_beads p i l);
    };
    letters = all_reverse Lettered z h;
    beads = λ i l.
        ap (λ n. slice n (get_or heights i 0) (get_or rows i [])) (blank_zero i l)
        ∙ p.stack i l ∙ stack_read (alphabet c) 0 (i + 1) z;
  }
