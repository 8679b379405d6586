-- A part of a cyclically reduced word: its letters, how many settling cycles, and what settling makes of it.
use Rattle.std.specs.Prelude.{ℕ, suc, ◌+◌, ◌-◌, ◌*◌, ◌≤◌, ◌≡◌, true, List, length, take}
use Rattle.std.proofs.Common.{arith, suc-mul, sym, ◌∙◌, ap, subst}
use Rattle.theory_words.specs.All.{All, all_map}
use Rattle.theory_words.specs.FilterLaws.{filter-length}
use Rattle.spec.specs.Catalogue.{commands}
use Rattle.spec.specs.Plan.{is_command}
use Rattle.input_plan.specs.Lettered.{Lettered}
use Rattle.input_plan.specs.LetteredLaws.{commands_lettered}
use Rattle.spec_laws.specs.CommandLaws.{command_range}
use Rattle.spec.specs.Letters.{alphabet}
use Rattle.spec_laws.specs.LettersLaws.{Commands}
use Rattle.theory_conjugacy.specs.Part as Part
use Rattle.theory_conjugacy.specs.Part.{apexes, part, share}
use Rattle.theory_conjugacy.specs.AscendingLaws.{◌∈◌}
use Rattle.theory_conjugacy.specs.CommandLaws.{Occurs, commands_bounded, all_occurs}
use Rattle.theory_conjugacy.specs.PartLaws.{part_connected, apex_occurs}
use Rattle.theory_conjugacy.specs.Rounds.{part_rounds}
use Rattle.theory_conjugacy.specs.RoundsLaws.{part_rounded}
use Rattle.theory_conjugacy.specs.LeadIn.{settling}
use Rattle.theory_conjugacy.specs.LeadInLaws.{apical_part, settling-length}
use Rattle.theory_conjugacy.specs.JoinLaws.{part_all}
use Rattle.conjugacy_settling.specs.Settling.{Settleable, Ended}
use Rattle.conjugacy_settled_parts.specs.declared.Ends.{Ends}
use Rattle.conjugacy_settled_parts.specs.PartOf.{Cyclic, PartOf, SettledOf}

-- a part of a cyclically reduced word

pub cyclic_lettered : {c : List ℕ} {conflicts : List (List ℕ)} {x : List ℕ} → Cyclic c conflicts x → All Lettered x
cyclic_lettered {c} {x = x} k = commands_lettered (commands c) x k.few k.letters

module _ {c : List ℕ} {conflicts : List (List ℕ)} {x : List ℕ} (k : Cyclic c conflicts x) (m : ℕ) where
  abbrev pub p : List ℕ
  p = part (alphabet c) m x

  pub part_short : length p ≤ length x
  unfolding part share
  part_short = filter-length (λ a. _) x

  pub part_letters : Commands (commands c) p
  part_letters = part_all (alphabet c) (λ b. is_command (commands c) b ≡ true) m x k.letters

-- with one of its apexes
module _ {c : List ℕ} {conflicts : List (List ℕ)} {x : List ℕ} (k : Cyclic c conflicts x) {apex : ℕ}
    (i : apex ∈ apexes (alphabet c) x) where
  abbrev z : List ℕ
  z = part (alphabet c) apex x

  apex_range : (j : ℕ) → Occurs (alphabet c) j z → (1 ≤ j) × (j ≤ commands c)
  apex_range = all_occurs (alphabet c) (λ j. (1 ≤ j) × (j ≤ commands c)) z
      (all_map (λ b t. command_range (commands c) b (omega (arith, k.few)) t) z (part_letters k apex))

  pub apex_few : length (Part.commands (alphabet c) z) ≤ commands c
  apex_few = commands_bounded (alphabet c) (commands c) z apex_range

  pub apex_some : 1 ≤ commands c
  apex_some = let (l, h) = apex_range apex (apex_occurs (alphabet c) x i) in omega arith

  -- settling cycles so many letters
  pub apex_cycled : (n : ℕ) → commands c ≡ suc n → length (settling (alphabet c) apex z) + n ≤ n * length z
  apex_cycled n f = settling-length (alphabet c) (apical_part (alphabet c) x i) n (omega (arith, apex_few))

  apex_room : length (settling (alphabet c) apex z) ≤ commands c * length z
  apex_room =
      let n = commands c - 1 in
      let e : commands c ≡ suc n = omega (arith, apex_some) in
      omega (arith, apex_cycled n e, ap (λ (j : ℕ). j * length z) e, suc-mul n (length z))

-- the steps of settling a part

-- a row of 1,024 bytes holds it
pub part_fits : {c : List ℕ} {conflicts : List (List ℕ)} {x : List ℕ} {apex : ℕ} {y out : List ℕ} {at n : ℕ}
    → PartOf c conflicts x apex y out at → 1024 ≡ n → length y ≤ n
part_fits {apex = apex} k e = omega (arith, ap length k.letters, part_short k.core apex, k.core.short)

module _ {c : List ℕ} {conflicts : List (List ℕ)} {x : List ℕ} {apex : ℕ} {y out : List ℕ} {at : ℕ}
    (k : PartOf c conflicts x apex y out at) {word : List ℕ} (same : word ≡ y) where
  abbrev d : word ≡ part (alphabet c) apex x
  d = same ∙ k.letters

  pub part_settleable : {high : List ℕ} → length y ≤ length high → Settleable c apex word conflicts high out at
  part_settleable {high} l =
      let core = k.core in
      subst (λ (z : List ℕ). Settleable c apex z conflicts high out at) (sym d) (record {
        letters = commands_lettered (commands c) (part (alphabet c) apex x) core.few (part_letters core apex);
        table = core.table;
        connected = part_connected (alphabet c) apex x;
        apex_occurs = apex_occurs (alphabet c) x k.apical;
        upper = omega (arith, ap length k.letters);
        room = omega (arith, k.room, apex_room core k.apical);
      })

  pub part_settled : {n e m : ℕ} {word' out' : List ℕ} → n ≡ length word
      → Ended c apex word (take (length word) word') out out' at (record { end = e; rounds = m })
      → SettledOf c x apex word' out out' at (record { letters = n; cycled = e; rounds = m })
  part_settled f o = record { many = f ∙ ap length d; ended = rw (f, ← d) o }

-- the rounds that settling took are those that the part needs
pub settled_rounds : {c : List ℕ} {conflicts : List (List ℕ)} {x : List ℕ} {apex : ℕ}
    {p word out out' : List ℕ} {at : ℕ} {e : Ends} → PartOf c conflicts x apex p out at
    → SettledOf c x apex word out out' at e → e.rounds ≡ part_rounds (alphabet c) apex x
settled_rounds {c} {x = x} {apex = apex} k s = sym (part_rounded (alphabet c) apex x k.apical s.ended.rounded)
