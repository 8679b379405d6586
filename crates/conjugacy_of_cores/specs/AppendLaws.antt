-- Several parts: their letters, the decision, the lead-ins and the rounds are those of some and those of the others.
use Rattle.std.specs.Prelude.{ℕ, max, ◌≡◌, Bool, true, false, ◌&&◌}
use Rattle.std.proofs.Common.{arith, ◌∙◌}
use Rattle.std.proofs.Math.Path.{refl, sym, ap}
use mathlib.Core.List.{List, [], ◌∷◌, ◌++◌, append_assoc}
use Rattle.theory_words.specs.Alphabet.{Alphabet, Word}
use Rattle.theory_conjugacy.specs.Part.{share, part}
use Rattle.theory_conjugacy.specs.PartLaws.{shares}
use Rattle.theory_conjugacy.specs.Decision.{part_ring, rotated?, parts_joined?}
use Rattle.theory_conjugacy.specs.LeadIn.{part_lead, parts_lead}
use Rattle.theory_conjugacy.specs.RoundsLaws.{most_append}
use Rattle.spec.specs.Letters.{alphabet}
use Rattle.conjugacy_of_parts.specs.Parts.{both_rounds}

and_assoc : (a b c : Bool) → ((a && b) && c) ≡ (a && (b && c))
and_assoc true b c = refl
and_assoc false b c = refl

module _ (Γ : Alphabet) where
  pub shares-append : (lab : ℕ → ℕ) (ms ns : List ℕ) (x : Word Γ)
      → shares Γ lab (ms ++ ns) x ≡ shares Γ lab ms x ++ shares Γ lab ns x
  unfolding shares
  shares-append lab [] ns x = refl
  shares-append lab (m ∷ ms) ns x =
      ap (λ (z : Word Γ). share Γ lab m x ++ z) (shares-append lab ms ns x)
      ∙ sym (append_assoc (share Γ lab m x) (shares Γ lab ms x) (shares Γ lab ns x))

  pub joined_append : (ms ns : List ℕ) (x y : Word Γ)
      → parts_joined? Γ (ms ++ ns) x y ≡ (parts_joined? Γ ms x y && parts_joined? Γ ns x y)
  unfolding parts_joined?
  joined_append [] ns x y = refl
  joined_append (m ∷ ms) ns x y =
      let r = rotated? Γ (part_ring Γ m x) (part_ring Γ m y) in
      ap (λ (t : Bool). r && t) (joined_append ms ns x y)
      ∙ sym (and_assoc r (parts_joined? Γ ms x y) (parts_joined? Γ ns x y))

  pub lead_append : (ms ns : List ℕ) (x y : Word Γ)
      → parts_lead Γ (ms ++ ns) x y ≡ parts_lead Γ ms x y ++ parts_lead Γ ns x y
  unfolding parts_lead
  lead_append [] ns x y = refl
  lead_append (m ∷ ms) ns x y =
      let u = part_lead Γ m (part Γ m x) (part Γ m y) in
      ap (λ (z : Word Γ). u ++ z) (lead_append ms ns x y)
      ∙ sym (append_assoc u (parts_lead Γ ms x y) (parts_lead Γ ns x y))

pub rounds_append : (c ms ns x y : List ℕ)
    → both_rounds c (ms ++ ns) x y ≡ max (both_rounds c ms x y) (both_rounds c ns x y)
rounds_append c ms ns x y = omega (arith, most_append (alphabet c) ms ns x, most_append (alphabet c) ms ns y)
