-- One command: where it occurs and is its own label it is an apex, and its part can be joined.
use Rattle.std.specs.Prelude.{ℕ, ◌+◌, ◌*◌, ◌≤◌, ◌<◌, ◌≡◌, refl, Some}
use Rattle.std.proofs.Math.Path.{sym, ap, subst}
use Rattle.std.proofs.Common.{◌∙◌, subst₂}
use mathlib.Core.List.{List, [], ◌∷◌, append-nil}
use Rattle.std.proofs.Math.ListN.{length, get_or}
use Rattle.spec.specs.Catalogue.{commands}
use Rattle.spec.specs.Letters.{alphabet}
use Rattle.theory_conjugacy.specs.Part.{label, part, share}
use Rattle.theory_conjugacy.specs.PartLaws.{shares, part-share}
use Rattle.theory_conjugacy.specs.Rounds.{most_rounds}
use Rattle.conjugacy_parts.specs.Group.{between, Grouped}
use Rattle.conjugacy_parts.specs.GroupedLaws.{slice_part}
use Rattle.conjugacy_rounds.specs.Apexes.{Apex, apex_at}
use Rattle.conjugacy_rounds.specs.ApexesLaws.{apex_none, apex_own, apex_member}
use Rattle.conjugacy_of_parts.specs.declared.Outcome.{Outcome}
use Rattle.conjugacy_of_parts.specs.Parts.{Partable, PartsOutcome}
use Rattle.conjugacy_of_cores.specs.Pair.{parts_of, Groups, Placeable}
use Rattle.conjugacy_of_cores.specs.SofarLaws.{joined_none}

module _ {c : List ℕ} {conflicts : List (List ℕ)} {x y fs labels : List ℕ} {k : ℕ} {row : List ℕ} {at : ℕ}
    (h : Placeable c conflicts x y fs labels k row at) where
  -- a command that is no apex adds nothing and takes no rounds
  pub place_none : ¬ Apex fs labels k → PartsOutcome c x y (apex_at fs labels k) row at row (record { end = Some at; rounds = 0 })
  unfolding most_rounds
  place_none n = subst (λ (ms : List ℕ). PartsOutcome c x y ms row at row (record { end = Some at; rounds = 0 }))
      (sym (apex_none fs labels k n)) (joined_none c x y row at, refl)

  module _ (l : k < 24) (a : Apex fs labels k) where
    part_length : (z : List ℕ)
        → length (parts_of c (apex_at fs labels k) z) ≡ length (part (alphabet c) (get_or labels k 0) z)
    unfolding shares
    part_length z =
        let m = get_or labels k 0 in
        ap (λ (ms : List ℕ). length (parts_of c ms z)) (apex_own fs labels k a ∙ ap (λ j. j ∷ []) (sym a.own))
        ∙ ap length (append-nil (share (alphabet c) (label (alphabet c) z) m z) ∙ sym (part-share (alphabet c) m z))

    -- the part is a slice of either grouped core
    slice_own : {z word starts : List ℕ} → Grouped c z word starts
        → between (get_or starts (k + 1) 0) (get_or starts (k + 2) 0) word ≡ part (alphabet c) (get_or labels k 0) z
    slice_own {z} g = slice_part g l ∙ ap (λ m. part (alphabet c) m z) (sym a.own)

    pub place_partable : {word other starts ends : List ℕ} → Groups c x y word starts other ends
        → Partable c conflicts x y (get_or labels k 0) (between (get_or starts (k + 1) 0) (get_or starts (k + 2) 0) word)
        (between (get_or ends (k + 1) 0) (get_or ends (k + 2) 0) other) row at
    place_partable g = record {
      two = h.flagged.two;
      apical = apex_member c x h.flagged.flags h.flagged.labelled k l a;
      one = slice_own g.first;
      other = slice_own g.second;
      room = subst₂ (λ n m. at + commands c * (n + m) ≤ length row) (part_length x) (part_length y) h.room;
    }

    pub place_outcome : (after : List ℕ) (o : Outcome) → PartsOutcome c x y (get_or labels k 0 ∷ []) row at after o
        → PartsOutcome c x y (apex_at fs labels k) row at after o
    place_outcome after o d = subst (λ (ms : List ℕ). PartsOutcome c x y ms row at after o)
        (ap (λ j. j ∷ []) a.own ∙ sym (apex_own fs labels k a)) d
