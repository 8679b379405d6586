-- From a part to its ring: what each step of the way asks follows from what the whole asks, and what the steps give is
-- the ring and the letters that settling cycles.
use Rattle.std.specs.Prelude.{ℕ, ◌+◌, ◌≤◌, ◌≡◌, true}
use Rattle.std.proofs.Common.{arith, ◌∙◌, length-take}
use Rattle.std.proofs.Math.Path.{sym, ap}
use mathlib.Core.List.{List, ◌++◌}
use Rattle.std.proofs.Math.ListN.{length, take}
use Rattle.theory_words.specs.Reduce.{reduce}
use Rattle.theory_words.specs.ReduceLaws.{reduce_fixed}
use Rattle.theory_words.specs.Normal.{nf, lex}
use Rattle.spec.specs.Catalogue.{commands}
use Rattle.spec.specs.Plan.{is_command}
use Rattle.spec.specs.Letters.{letters, alphabet, normal_form}
use Rattle.spec_laws.specs.LettersLaws.{Commands, letters_same}
use Rattle.theory_conjugacy.specs.TurnLaws.{round_turns, round_reduced}
use Rattle.theory_conjugacy.specs.Part.{part}
use Rattle.theory_conjugacy.specs.PartLaws.{part_connected, apex_occurs}
use Rattle.theory_conjugacy.specs.Settle.{Rounded}
use Rattle.theory_conjugacy.specs.SettleLaws.{rounded_turns, rounded_as_long}
use Rattle.theory_conjugacy.specs.Decision.{part_ring}
use Rattle.theory_conjugacy.specs.LeadInLaws.{settling_cycled, settling_ring}
use Rattle.array_row.specs.Area.{StartsWith}
use Rattle.array_row.specs.AreaLaws.{starts_length, starts_take}
use Rattle.conjugacy_settled_parts.specs.declared.Ends.{Ends}
use Rattle.conjugacy_settled_parts.specs.PartOf.{Cyclic, PartOf, SettledOf}
use Rattle.conjugacy_settled_parts.specs.PartOfLaws.{part_short, part_letters, settled_rounds}
use Rattle.conjugacy_ring.specs.PartLaws.{part_round, turns_all}
use Rattle.conjugacy_ring.specs.Ring.{Rung}

-- what settling makes of a part of a cyclically reduced word

module _ {c : List ℕ} {conflicts : List (List ℕ)} {x : List ℕ} (k : Cyclic c conflicts x) {m n : ℕ} {g w : List ℕ}
    (o : Rounded (alphabet c) m n (part (alphabet c) m x) g w) where
  settled_letters : Commands (commands c) w
  settled_letters =
      turns_all (alphabet c) (λ b. is_command (commands c) b ≡ true) (rounded_turns (alphabet c) m o) (part_letters k m)

  settled_cyclic : Cyclic c conflicts w
  settled_cyclic = record {
    table = k.table;
    few = k.few;
    letters = settled_letters;
    round = round_turns (alphabet c) (rounded_turns (alphabet c) m o) (part_round (alphabet c) m x k.round);
    short = omega (arith, rounded_as_long (alphabet c) m o, part_short k m, k.short);
  }

  -- its normal form is the word in order
  settled_normal : normal_form c w ≡ lex (alphabet c) (length w) w
  unfolding normal_form nf
  settled_normal =
      let e : letters w ≡ w = letters_same (commands c) w settled_letters in
      let r : reduce (alphabet c) w ≡ w =
      reduce_fixed (alphabet c) w (round_reduced (alphabet c) w settled_cyclic.round) in
      ap (nf (alphabet c)) e ∙ ap (λ (z : List ℕ). lex (alphabet c) (length z) z) r

-- from the settled part to the ring

module _ {c : List ℕ} {conflicts : List (List ℕ)} {x : List ℕ} {apex : ℕ} {p out : List ℕ} {at : ℕ}
    (k : PartOf c conflicts x apex p out at) {word out' : List ℕ} {e : Ends}
    (s : SettledOf c x apex word out out' at e) where
  abbrev y : Cyclic c conflicts x
  y = k.core

  abbrev z : List ℕ
  z = take e.letters word

  -- what is lent of the word
  pub lent_count : e.letters ≡ length z
  lent_count = s.many ∙ sym (rounded_as_long (alphabet c) apex s.ended.rounded)

  pub lent_fits : e.letters ≤ length word
  lent_fits = omega (arith, lent_count, length-take e.letters word)

  pub lent_cyclic : Cyclic c conflicts z
  lent_cyclic = settled_cyclic y s.ended.rounded

  pub lent_short : length z ≤ length p
  lent_short = omega (arith, lent_count, s.many, ap length k.letters)

  pub lent_rung : {before after : List ℕ} {r : ℕ} → StartsWith (normal_form c z) before after r
      → Rung c x apex after out out' at (record { letters = r; cycled = e.cycled; rounds = e.rounds })
  unfolding part_ring
  lent_rung f =
      let Γ = alphabet c in
      let o = s.ended.rounded in
      let h = part_connected Γ apex x in
      let i = apex_occurs Γ x k.apical in
      let b = sym (settling_cycled Γ h i o) in
      let g : normal_form c z ≡ part_ring Γ apex x = settled_normal y o ∙ sym (settling_ring Γ h i o) in
      record {
        ring = starts_take f ∙ g;
        count = starts_length f ∙ ap length g;
        cycled = s.ended.written ∙ ap (λ (v : List ℕ). take at out ++ v) b;
        end = s.ended.ends ∙ ap (λ (v : List ℕ). at + length v) b;
        rounds = settled_rounds k s;
      }
