-- Before a plan is piled up: how long its reduced word can be, and what its letters find in the rows.
use Rattle.std.specs.Prelude.{ℕ, ◌-◌, ◌≤◌, true, ◌≡◌, List, [], reverse, length, get_or}
use Rattle.std.proofs.Common.{arith, ne_eqb}
use Rattle.std.proofs.lemmas.List.{length-reverse}
use Rattle.theory_words.specs.ReduceLaws.{reduce-length}
use Rattle.spec.specs.Catalogue.{commands}
use Rattle.input_chains.specs.Conflicts.{Conflicts}
use Rattle.spec.specs.Plan.{passes}
use Rattle.spec.specs.Byte.{command_of}
use Rattle.spec.specs.Letters.{alphabet, letters}
use Rattle.input_plan.specs.Lettered.{Lettered}
use Rattle.spec_laws.specs.CommandLaws.{passes_command, command_range}
use Rattle.spec_laws.specs.LettersLaws.{letters-length}
use Rattle.piling_stacks.specs.Piling.{Piled}
use Rattle.piling_stacks.specs.Push.{Facing}
use Rattle.piling_stacks.specs.Pile.{reduced}

pub reduced-length : (c v : List ℕ) → length (reduced c v) ≤ length v
reduced-length c v =
    omega (arith, reduce-length (alphabet c) (reverse (letters v)), length-reverse (letters v), letters-length v)

-- a byte that passes and is no filler is of a command that has a row
pub passes_range : (c : List ℕ) (b : ℕ) → commands c ≤ 24 → passes (commands c) b ≡ true → ¬ (b ≡ 0) → Lettered b
passes_range c b few p n =
    let (low, high) = command_range (commands c) b (omega arith) (passes_command (commands c) b p (ne_eqb b 0 n)) in
    (low, omega arith)

-- a letter of such a command before a piling
pub facing_at : {c : List ℕ} {conflicts rows : List (List ℕ)} {heights z : List ℕ} {b : ℕ} → Conflicts c conflicts
    → Lettered b → Piled c rows heights z
    → Facing c rows heights (get_or conflicts (command_of b - 1) []) (command_of b - 1) b z
facing_at {b = b} t (low, high) p = record {
  piled = p;
  within = omega arith;
  own = omega arith;
  wide = t.wide (command_of b - 1) (omega arith);
  tells = λ j h. t.tells (command_of b - 1) j (omega arith) h;
}
