-- Conjugators from one core to another: the empty word where they are equal up to swaps, and else the lead-ins of their
-- parts.
use Rattle.std.specs.Prelude.{ℕ, zero, suc, ◌+◌, ◌*◌, ◌≤◌, ◌≡◌, refl, true, List, [], length, take}
use Rattle.std.proofs.Common.{arith, mul-le-mul_right, sym, ◌∙◌, subst, append-nil}
use Rattle.theory_words.specs.All.{All}
use Rattle.theory_words.specs.TraceLaws.{~-length}
use Rattle.theory_words.specs.Trace as Trace
use Rattle.theory_words.specs.Group.{then}
use Rattle.theory_words.specs.GroupLaws.{≈_of_≡, ~→≈, conj_nil}
use Rattle.theory_conjugacy.specs.Part.{apexes}
use Rattle.theory_conjugacy.specs.CommandLaws.{all_occurs}
use Rattle.theory_conjugacy.specs.PartLaws.{apexes-~}
use Rattle.theory_conjugacy.specs.Decision.{cores_joined?}
use Rattle.theory_conjugacy.specs.DecisionLaws.{none_occur, cores_true, cores_lead}
use Rattle.theory_conjugacy.specs.LeadIn.{parts_lead}
use Rattle.theory_conjugacy.specs.JoinLaws.{parts_lead_length, parts_lead_all}
use Rattle.spec.specs.Catalogue.{commands}
use Rattle.spec.specs.Plan.{is_command}
use Rattle.spec.specs.Byte.{command_of}
use Rattle.spec_laws.specs.CommandLaws.{is_command-undone}
use Rattle.spec.specs.Letters.{alphabet}
use Rattle.spec_laws.specs.LettersLaws.{commands_range}
use Rattle.conjugacy_settled_parts.specs.PartOf.{Cyclic}
use Rattle.conjugacy_of_cores.specs.Pair.{Conjugator, CoresJoined}

-- nothing at all is short, for with no commands there are no letters
none_short : (n l : ℕ) → (n ≡ 0 → l ≡ 0) → l ≤ (2 * n) * l
none_short zero l z = let e = z refl in omega arith
none_short (suc n) l z =
    let e : 1 * l ≤ (2 * suc n) * l = mul-le-mul_right l (omega arith) in
    omega (arith, e)

module _ {c : List ℕ} {conflicts : List (List ℕ)} {x : List ℕ} (k : Cyclic c conflicts x) where
  range : All (λ a. (1 ≤ command_of a) × (command_of a ≤ commands c)) x
  range = commands_range (commands c) x k.few k.letters

  pub cores_same : {y row row' : List ℕ} {at : ℕ} → Trace.◌~◌ (alphabet c) x y → take at row' ≡ take at row
      → CoresJoined c x y row at row' at
  cores_same {row = row} {at = at} e f = record {
    word = [];
    conjugator = record {
      conjugates = then (≈_of_≡ (alphabet c) (conj_nil (alphabet c) x)) (~→≈ (alphabet c) e);
      letters = tt;
      short = omega (arith, none_short (commands c) (length x) (none_occur (alphabet c) (commands c) x range));
    };
    written = f ∙ sym (append-nil (take at row));
    ends = omega arith;
  }

  pub parts_conjugator : {y : List ℕ} → Cyclic c conflicts y → cores_joined? (alphabet c) x y ≡ true
      → Conjugator c x y (parts_lead (alphabet c) (apexes (alphabet c) x) x y)
  parts_conjugator {y} l t =
      let Γ = alphabet c in
      let u = parts_lead Γ (apexes Γ x) x y in
      let (f, p) = cores_true Γ x y t in
      let b = parts_lead_length Γ x y f (commands c) (all_occurs Γ (λ m. (1 ≤ m) × (m ≤ commands c)) x range)
      (apexes Γ x) (λ m o. o) p in
      record {
        conjugates = cores_lead Γ x y t;
        letters = parts_lead_all Γ x y f (λ b. is_command (commands c) b ≡ true)
            (λ b e. is_command-undone (commands c) b ∙ e) k.letters l.letters (apexes Γ x) (λ m o. o);
        short = subst (λ m. length u + m ≤ (2 * commands c) * m) (sym (~-length Γ (apexes-~ Γ x))) b;
      }
