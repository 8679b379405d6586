-- The rounds of a core: with its flags and labels its parts can be counted, and the number is that of all of them.
use Rattle.std.specs.Prelude.{ℕ, ◌+◌, ◌*◌, ◌≤◌, max, ◌≡◌, List, length}
use Rattle.std.proofs.Common.{arith, mul-add, ◌∙◌, ap, subst}
use Rattle.theory_words.specs.Trace as Trace
use Rattle.spec.specs.Catalogue as Catalogue
use Rattle.spec.specs.Letters.{alphabet}
use Rattle.theory_conjugacy.specs.Part.{commands, labels, label}
use Rattle.theory_conjugacy.specs.PartLaws.{label_same}
use Rattle.theory_conjugacy.specs.Rounds.{most_rounds, core_rounds}
use Rattle.theory_conjugacy.specs.RoundsLaws.{core_rounds_along}
use Rattle.conjugacy_commands.specs.Flags.{Flags}
use Rattle.conjugacy_labels.specs.Labels.{LabelsOf}
use Rattle.conjugacy_settled_parts.specs.PartOf.{Cyclic}
use Rattle.conjugacy_rounds.specs.Apexes.{apexes_from}
use Rattle.conjugacy_rounds.specs.ApexesLaws.{apexes_from_lem}
use Rattle.conjugacy_rounds.specs.Counting.{CoreOf, Counts}
use Rattle.conjugacy_of_parts.specs.Parts.{both_rounds}
use Rattle.conjugacy_of_cores.specs.Pair.{Joinable, Coreable, cores_rounds}

-- room for both is room for either
either_room : (n l m at r : ℕ) → at + n * (l + m) ≤ r → (at + n * l ≤ r) × (at + n * m ≤ r)
either_room n l m at r h = (omega (arith, mul-add n l m), omega (arith, mul-add n l m))

-- where the same commands occur

module _ {c : List ℕ} {conflicts : List (List ℕ)} {x y fs labels row : List ℕ} {at : ℕ}
    (h : Joinable c conflicts x y fs labels row at) where
  abbrev rooms : (at + Catalogue.commands c * length x ≤ length row)
      × (at + Catalogue.commands c * length y ≤ length row)
  rooms = either_room (Catalogue.commands c) (length x) (length y) at (length row) h.room

  pub joinable_as_long : {row' : List ℕ} → length row' ≡ length row → Joinable c conflicts x y fs labels row' at
  joinable_as_long e = record { flagged = h.flagged; room = omega (arith, h.room) }

  pub joinable_first : CoreOf c conflicts x fs labels row at
  joinable_first = record {
    core = record { cyclic = h.flagged.two.first; labelled = h.flagged.labelled };
    flags = h.flagged.flags;
    room = rooms.0;
  }

  pub joinable_second : {row' : List ℕ} → length row' ≡ length row → CoreOf c conflicts y fs labels row' at
  joinable_second e = record {
    core = record {
      cyclic = h.flagged.two.second;
      labelled = subst (λ (lab : ℕ → ℕ). LabelsOf lab labels) (label_same (alphabet c) x y h.flagged.two.same)
          h.flagged.labelled;
    };
    flags = subst (λ (ks : List ℕ). Flags ks fs) h.flagged.two.same h.flagged.flags;
    room = omega (arith, rooms.1);
  }

pub both_counted : (c x y ms : List ℕ) {row row' row'' : List ℕ} {at n m : ℕ} → Counts c x ms 0 row row' at n
    → Counts c y ms n row' row'' at m → m ≡ both_rounds c ms x y
both_counted c x y ms a b = omega (arith, a.count, b.count)

-- whole cores

core_of : {c : List ℕ} {conflicts : List (List ℕ)} {x fs names row : List ℕ} {at : ℕ}
    → Cyclic c conflicts x → at + Catalogue.commands c * length x ≤ length row
    → Flags (commands (alphabet c) x) fs → LabelsOf (labels (alphabet c) (commands (alphabet c) x)) names
    → CoreOf c conflicts x fs names row at
unfolding label
core_of k r f l = record { core = record { cyclic = k; labelled = l }; flags = f; room = r }

module _ {c : List ℕ} {conflicts : List (List ℕ)} {x y row : List ℕ} {at : ℕ}
    (h : Coreable c conflicts x y row at) {fs names : List ℕ} where
  pub core_first : Flags (commands (alphabet c) x) fs
      → LabelsOf (labels (alphabet c) (commands (alphabet c) x)) names → CoreOf c conflicts x fs names row at
  core_first =
      core_of h.first (either_room (Catalogue.commands c) (length x) (length y) at (length row) h.room).0

  pub core_second : Flags (commands (alphabet c) y) fs
      → LabelsOf (labels (alphabet c) (commands (alphabet c) y)) names
      → {row' : List ℕ} → length row' ≡ length row → CoreOf c conflicts y fs names row' at
  core_second f l e =
      core_of h.second
      (omega (arith, (either_room (Catalogue.commands c) (length x) (length y) at (length row) h.room).1)) f l

-- the apexes from the first command on are all
core_counted : {c : List ℕ} {conflicts : List (List ℕ)} {x fs names row row' : List ℕ}
    {at most n : ℕ} → CoreOf c conflicts x fs names row at
    → Counts c x (apexes_from fs names 24 0) most row row' at n → n ≡ max most (core_rounds (alphabet c) x)
unfolding core_rounds
core_counted {c} {x = x} {most = most} k t =
    t.count ∙ ap (λ (ms : List ℕ). max most (most_rounds (alphabet c) ms x))
    (apexes_from_lem c x k.flags k.core.labelled)

-- one core for both, where they are equal up to swaps
pub same_counted : {c : List ℕ} {conflicts : List (List ℕ)} {x y fs names row row' : List ℕ}
    {at n : ℕ} → CoreOf c conflicts x fs names row at
    → Counts c x (apexes_from fs names 24 0) 0 row row' at n → Trace.◌~◌ (alphabet c) x y → n ≡ cores_rounds c x y
same_counted {c} k t e = omega (arith, core_counted k t, core_rounds_along (alphabet c) e)

-- one after the other
pub cores_counted : {c : List ℕ} {conflicts : List (List ℕ)} {x y fs gs names others : List ℕ}
    {row row' row'' : List ℕ} {at n m : ℕ}
    → CoreOf c conflicts x fs names row at → Counts c x (apexes_from fs names 24 0) 0 row row' at n
    → CoreOf c conflicts y gs others row' at → Counts c y (apexes_from gs others 24 0) n row' row'' at m
    → m ≡ cores_rounds c x y
cores_counted k t l u = omega (arith, core_counted k t, core_counted l u)
