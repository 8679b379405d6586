-- The normal form of a cyclically reduced word: what finding it asks, and that it is the word itself where no two
-- letters can be swapped.
use Rattle.std.specs.Prelude.{ℕ, ◌≤◌, ◌≡◌, List, length}
use Rattle.std.proofs.Common.{arith, ◌∙◌}
use Rattle.std.proofs.Math.Path.{ap}
use Rattle.theory_words.specs.Normal.{nf}
use Rattle.theory_conjugacy.specs.TurnLaws.{round_reduced}
use Rattle.theory_conjugacy.specs.Part as Part
use Rattle.theory_conjugacy.specs.Clique.{Clique}
use Rattle.theory_conjugacy.specs.CliqueLaws.{clique_normal}
use Rattle.spec.specs.Catalogue.{commands}
use Rattle.spec.specs.Letters.{letters, alphabet, normal_form}
use Rattle.spec_laws.specs.LettersLaws.{letters_same, letters-length, commands_passing}
use Rattle.array_row.specs.Area.{StartsWith}
use Rattle.long_reduction.specs.Reducing.{Given}
use Rattle.long_form.specs.Forming.{Formable}
use Rattle.conjugacy_settled_parts.specs.PartOf.{Cyclic}

module _ {c : List ℕ} {conflicts : List (List ℕ)} {w : List ℕ} (k : Cyclic c conflicts w) where
  pub cyclic_given : Given c conflicts w
  cyclic_given = record {
    table = k.table;
    few = k.few;
    passing = commands_passing (commands c) w k.letters;
    short = omega (arith, k.short);
  }

  pub cyclic_formable : {ring : List ℕ} → length w ≤ length ring → Formable 50176 c conflicts w ring
  cyclic_formable l = record {
    given = cyclic_given;
    short = cyclic_given.short;
    fits = omega (arith, l, letters-length w);
  }

  clique_form : Clique (alphabet c) (Part.commands (alphabet c) w) → normal_form c w ≡ w
  unfolding normal_form
  clique_form q =
      let e : letters w ≡ w = letters_same (commands c) w k.letters in
      ap (nf (alphabet c)) e ∙ clique_normal (alphabet c) w (round_reduced (alphabet c) w k.round) q

  pub clique_copied : {before after : List ℕ} {r : ℕ} → Clique (alphabet c) (Part.commands (alphabet c) w)
      → StartsWith w before after r → StartsWith (normal_form c w) before after r
  clique_copied q s = rw (clique_form q) s
