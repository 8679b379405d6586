-- Two cores: where other commands occur they are apart, and where the same occur their parts decide.
use Prim.Native.Nat.{ℕ, max}
use Rattle.std.specs.Prelude.{◌≡◌, Bool, ◌&&◌, Option, None, Some, MatchOption}
use Rattle.std.proofs.Math.Path.{refl, ap}
use Rattle.std.proofs.Common.{◌∙◌}
use Rattle.std.proofs.Math.Bool.{true, false}
use mathlib.Core.List.{List}
use Rattle.spec.specs.Letters.{alphabet}
use Rattle.theory_conjugacy.specs.Part.{commands, labels, label, apexes}
use Rattle.theory_conjugacy.specs.PartLaws.{apexes_same}
use Rattle.theory_conjugacy.specs.Decision.{parts_joined?, cores_joined?}
use Rattle.theory_words.specs.Alike.{alike?}
use Rattle.theory_words.specs.AlikeLaws.{alike_true, alike_refl}
use Rattle.theory_conjugacy.specs.LeadIn.{parts_lead}
use Rattle.theory_conjugacy.specs.Rounds.{most_rounds, core_rounds}
use Rattle.conjugacy_commands.specs.Flags.{Flags}
use Rattle.conjugacy_labels.specs.Labels.{LabelsOf}
use Rattle.conjugacy_of_parts.specs.declared.Outcome.{Outcome}
use Rattle.conjugacy_of_parts.specs.Parts.{both_rounds, PartsJoined, PartsOutcome}
use Rattle.conjugacy_of_cores.specs.Pair.{Joinable, Coreable, CoresJoined, cores_rounds, CoresOutcome}
use Rattle.conjugacy_of_cores.specs.ConjugatorLaws.{parts_conjugator}

module _ {c : List ℕ} {conflicts : List (List ℕ)} {x y row : List ℕ} {at : ℕ}
    (h : Coreable c conflicts x y row at) where
  pub cores_apart : ¬ (commands (alphabet c) x ≡ commands (alphabet c) y) → cores_joined? (alphabet c) x y ≡ false
  unfolding cores_joined?
  cores_apart n = go (alike? (commands (alphabet c) x) (commands (alphabet c) y)) refl
    where
      go : (s : Bool) → alike? (commands (alphabet c) x) (commands (alphabet c) y) ≡ s
          → (s && parts_joined? (alphabet c) (apexes (alphabet c) x) x y) ≡ false
      go true f = absurd (n (alike_true (commands (alphabet c) x) (commands (alphabet c) y) f))
      go false f = refl

  module _ (same : commands (alphabet c) x ≡ commands (alphabet c) y) where
    pub cores_joinable : {fs names : List ℕ} → Flags (commands (alphabet c) x) fs
        → LabelsOf (labels (alphabet c) (commands (alphabet c) x)) names → Joinable c conflicts x y fs names row at
    unfolding label
    cores_joinable {fs} {names} f l = record {
      flagged = record {
        two = record { first = h.first; second = h.second; same = same };
        labelled = l;
        flags = f;
      };
      room = h.room;
    }

    decided : cores_joined? (alphabet c) x y ≡ parts_joined? (alphabet c) (apexes (alphabet c) x) x y
    unfolding cores_joined?
    decided = rw (← same, alike_refl (commands (alphabet c) x))

    -- the apexes of one core are those of the other
    all_counted : both_rounds c (apexes (alphabet c) x) x y ≡ cores_rounds c x y
    unfolding core_rounds
    all_counted = ap (λ (ms : List ℕ). max (most_rounds (alphabet c) (apexes (alphabet c) x) x)
        (most_rounds (alphabet c) ms y)) (apexes_same (alphabet c) x y same)

    pub cores_outcome : (after : List ℕ) (o : Outcome) → PartsOutcome c x y (apexes (alphabet c) x) row at after o
        → CoresOutcome c x y row at after o
    cores_outcome after o (d, e) = (go o.end d, e ∙ all_counted)
      where
        go : (s : Option ℕ)
            → MatchOption s (parts_joined? (alphabet c) (apexes (alphabet c) x) x y ≡ false)
            (PartsJoined c x y (apexes (alphabet c) x) row at after)
            → MatchOption s (cores_joined? (alphabet c) x y ≡ false) (CoresJoined c x y row at after)
        go (Some end) p = record {
          word = parts_lead (alphabet c) (apexes (alphabet c) x) x y;
          conjugator = parts_conjugator h.first h.second (decided ∙ p.joined);
          written = p.written;
          ends = p.ends;
        }
        go None p = decided ∙ p
