-- Blank rows and heights are the piling of the empty word, under every catalogue.
use Rattle.std.specs.Prelude.{ℕ, zero, suc, ◌≡◌, refl, List, [], get_or, replicate}
use Rattle.std.proofs.Common.{arith, ◌∙◌}
use Rattle.std.proofs.lemmas.List.{length-replicate, get_or-replicate}
use Rattle.theory_words.specs.Stack.{proj}
use Rattle.piling_stacks.specs.Piling.{Piled}
use Rattle.array_counts.specs.Blank.{blank_heights}
use Rattle.piling_stacks.specs.Blank.{blank_rows}
use Rattle.piling_stacks.specs.BeadsLaws.{Beads}
use Rattle.piling_stacks.specs.PilingLaws.{beads_piled}

abbrev zeros : ℕ → List ℕ
zeros n = replicate n 0

zeros_at : (n j : ℕ) → ◌≡◌ {A = ℕ} (get_or (zeros n) j 0) 0
zeros_at zero j = refl
zeros_at (suc n) zero = refl
zeros_at (suc n) (suc j) = zeros_at n j

zeros_beads : (n : ℕ) → n ≡ 1024 → Beads (zeros n) 0 []
zeros_beads n e = record {
  wide = length-replicate {A = ℕ} n 0 ∙ e;
  stack = refl;
  height = refl;
  above = λ j l. zeros_at n j;
}

blank_piled : (c : List ℕ) (m n : ℕ) → m ≡ 24 → n ≡ 1024 → Piled c (replicate m (zeros n)) (zeros m) []
unfolding proj
blank_piled c m n e f =
    beads_piled (length-replicate m (zeros n) ∙ e) (length-replicate {A = ℕ} m 0 ∙ e) λ i l.
    rw (get_or-replicate m i (zeros n) [] (omega arith), zeros_at m i) (zeros_beads n f)

pub piled_blank : (c : List ℕ) → Piled c blank_rows blank_heights []
unfolding blank_rows blank_heights
piled_blank c = blank_piled c 24 1024 refl refl
