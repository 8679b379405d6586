-- The normal form of a plan that has passed: its letters are of the 24 commands, and it is no longer than a plan.
use Rattle.std.specs.Prelude.{ℕ, ◌≤◌, ◌≡◌, true, List, length}
use Rattle.std.proofs.Common.{arith}
use Rattle.theory_words.specs.All.{All}
use Rattle.theory_words.specs.LetterLaws.{all_nf}
use Rattle.spec.specs.Catalogue.{commands}
use Rattle.spec.specs.Plan.{is_command}
use Rattle.spec.specs.Letters.{letters, alphabet, normal_form}
use Rattle.spec_laws.specs.LettersLaws.{letters_commands}
use Rattle.spec_laws.specs.NormalFormLaws.{normal_length}
use Rattle.input_plan.specs.Lettered.{Lettered}
use Rattle.input_plan.specs.LetteredLaws.{commands_lettered}
use Rattle.input_checks.specs.Passed.{Passed}

module _ {c : List ℕ} {conflicts : List (List ℕ)} {v : List ℕ} (p : Passed c conflicts v) where
  pub form_lettered : All Lettered (normal_form c v)
  unfolding normal_form
  form_lettered =
      commands_lettered (commands c) (normal_form c v) p.few
      (all_nf (alphabet c) (λ b. is_command (commands c) b ≡ true) (letters v)
      (letters_commands (commands c) v p.passing))

  pub form_short : length (normal_form c v) ≤ 1024
  form_short = omega (arith, normal_length c v, p.short)
