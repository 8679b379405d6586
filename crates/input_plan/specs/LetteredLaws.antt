-- Laws of the letters of 24 commands: they are no fillers, and a word of at most 24 commands has no others.
use Rattle.std.specs.Prelude.{ℕ, ◌≤◌, ◌≡◌, List}
use Rattle.std.proofs.Common.{subst, arith}
use Rattle.theory_words.specs.All.{All, all_map}
use Rattle.spec.specs.Byte.{command_of}
use Rattle.spec_laws.specs.CommandLaws.{command_range}
use Rattle.spec_laws.specs.LettersLaws.{Commands}
use Rattle.input_plan.specs.Lettered.{Lettered}

pub lettered_filler : {b : ℕ} → Lettered b → ¬ (b ≡ 0)
lettered_filler {b} h e = let l : 1 ≤ command_of 0 = subst (λ n. 1 ≤ command_of n) e h.0 in omega arith

pub commands_lettered : (n : ℕ) (v : List ℕ) → n ≤ 24 → Commands n v → All Lettered v
commands_lettered n v l h = all_map (λ b e.
    let (low, high) = command_range n b (omega arith) e in
    (low, omega arith)) v h
