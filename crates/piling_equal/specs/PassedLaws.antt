-- A plan that has passed can be piled up, and the word that is then piled.
use Rattle.std.specs.Prelude.{ℕ, ◌≡◌, List, [], reverse, true}
use Rattle.std.proofs.Common.{sym, subst₂, arith}
use Rattle.theory_words.specs.All.{All, all_map, all_reverse}
use Rattle.theory_words.specs.Group as Group
use Rattle.theory_words.specs.ReduceLaws.{reduce_back_≈}
use Rattle.theory_words.specs.LetterLaws.{all_reduce}
use Rattle.spec.specs.Catalogue.{commands}
use Rattle.spec.specs.Plan.{is_command}
use Rattle.spec.specs.Letters.{letters, alphabet}
use Rattle.spec_laws.specs.LettersLaws.{letters_commands}
use Rattle.spec_laws.specs.CommandLaws.{command_range}
use Rattle.input_plan.specs.Lettered.{Lettered}
use Rattle.piling_stacks.specs.Piling.{Piled}
use Rattle.piling_stacks.specs.Pile.{Given, reduced}
use Rattle.piling_stacks.specs.BlankLaws.{piled_blank}
use Rattle.array_counts.specs.Blank.{blank_heights}
use Rattle.piling_stacks.specs.Blank.{blank_rows}
use Rattle.input_checks.specs.Passed.{Passed}

module _ {c : List ℕ} {conflicts : List (List ℕ)} {v : List ℕ} (p : Passed c conflicts v) where
  -- a plan that has passed can be piled into blank rows
  pub passed_given : {rows : List (List ℕ)} {heights : List ℕ} → rows ≡ blank_rows → heights ≡ blank_heights
      → Given c v conflicts rows heights
  passed_given {rows} {heights} e f =
      record {
        few = p.few;
        passing = p.passing;
        short = p.short;
        table = p.table;
        blank = subst₂ (λ r h. Piled c r h []) (sym e) (sym f) (piled_blank c);
      }

  pub passed_lettered : All Lettered (reduced c v)
  passed_lettered =
      all_reduce (alphabet c) Lettered (reverse (letters v))
      (all_reverse Lettered (letters v) (all_map lettered (letters v) (letters_commands (commands c) v p.passing)))
    where
      lettered : (b : ℕ) → is_command (commands c) b ≡ true → Lettered b
      lettered b e =
          let (l, h) = command_range (commands c) b (omega (arith, p.few)) e in
          (l, omega (arith, p.few))

module _ (c v : List ℕ) where
  infix 20 ◌≈◌
  abbrev ◌≈◌ : List ℕ → List ℕ → Type 0
  ◌≈◌ = Group.◌≈◌ (alphabet c)

  pub reduced_word : reverse (reduced c v) ≈ letters v
  reduced_word = reduce_back_≈ (alphabet c) (letters v)
