-- Two cores with one part: the cores are that part, and its outcome is that of all parts.
use Rattle.std.specs.Prelude.{ℕ, ◌<◌, ◌≡◌, List, [], ◌∷◌, get_or}
use Rattle.std.proofs.Common.{sym, ◌∙◌, ap, subst}
use Rattle.spec.specs.Letters.{alphabet}
use Rattle.theory_conjugacy.specs.Part.{apexes, part}
use Rattle.theory_conjugacy.specs.PartLaws.{apexes_same}
use Rattle.conjugacy_rounds.specs.Apexes.{LoneApex}
use Rattle.conjugacy_rounds.specs.ApexesLaws.{apexes_from_lem, apex_member}
use Rattle.conjugacy_rounds.specs.WholeLaws.{part_whole}
use Rattle.conjugacy_of_parts.specs.declared.Outcome.{Outcome}
use Rattle.conjugacy_of_parts.specs.Parts.{Partable, PartsOutcome}
use Rattle.conjugacy_of_cores.specs.Pair.{Joinable}

module _ {c : List ℕ} {conflicts : List (List ℕ)} {x y fs labels row : List ℕ} {at k : ℕ}
    (h : Joinable c conflicts x y fs labels row at) (l : k < 24) (o : LoneApex fs labels k) where
  abbrev m : ℕ
  m = get_or labels k 0

  only : apexes (alphabet c) x ≡ m ∷ []
  only = sym (apexes_from_lem c x h.flagged.flags h.flagged.labelled) ∙ o.only l
      ∙ ap (λ j. j ∷ []) (sym (o.apex l).own)

  first_whole : part (alphabet c) m x ≡ x
  first_whole = part_whole (alphabet c) m x only

  second_whole : part (alphabet c) m y ≡ y
  second_whole = part_whole (alphabet c) m y (sym (apexes_same (alphabet c) x y h.flagged.two.same) ∙ only)

  pub lone_partable : Partable c conflicts x y m x y row at
  lone_partable = record {
    two = h.flagged.two;
    apical = apex_member c x h.flagged.flags h.flagged.labelled k l (o.apex l);
    one = sym first_whole;
    other = sym second_whole;
    room = rw (first_whole, second_whole) h.room;
  }

  pub lone_outcome : (after : List ℕ) (r : Outcome) → PartsOutcome c x y (m ∷ []) row at after r
      → PartsOutcome c x y (apexes (alphabet c) x) row at after r
  lone_outcome after r d = subst (λ (ms : List ℕ). PartsOutcome c x y ms row at after r) (sym only) d
