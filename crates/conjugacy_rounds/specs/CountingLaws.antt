-- Laws of counting: the number is 0 for no part and for a part with a single command, for a settled part it is what
-- settling took, and for several parts the largest of theirs. The only part of a core is the core.
use Rattle.std.specs.Prelude.{ℕ, ◌+◌, ◌-◌, ◌<◌, ◌≤◌, max, ◌≡◌, length, take, get_or}
use Rattle.std.proofs.Common.{arith, mul-le-mul_left, sym, ◌∙◌, subst, take-take, take_at, length-take-le}
use Rattle.std.proofs.Math.Decide.{dec_lt}
use Rattle.std.proofs.Math.Path.{refl, ap}
use mathlib.Core.List.{List, [], ◌∷◌}
use Rattle.spec.specs.Catalogue.{commands}
use Rattle.spec.specs.Letters.{alphabet}
use Rattle.theory_conjugacy.specs.Part.{part, label}
use Rattle.theory_conjugacy.specs.CommandLaws.{Occurs, all_occurs, occurs_all}
use Rattle.theory_conjugacy.specs.PartLaws.{part_occurs, part_largest}
use Rattle.theory_conjugacy.specs.Rounds.{part_rounds, most_rounds}
use Rattle.theory_conjugacy.specs.RoundsLaws.{part_rounds_alone, most_append}
use Rattle.conjugacy_settled_parts.specs.declared.Ends.{Ends}
use Rattle.conjugacy_parts.specs.Group.{Groupable, between}
use Rattle.conjugacy_parts.specs.GroupedLaws.{slice_part}
use Rattle.conjugacy_settled_parts.specs.PartOf.{PartOf, SettledOf}
use Rattle.conjugacy_settled_parts.specs.PartOfLaws.{cyclic_lettered, part_short, settled_rounds}
use Rattle.conjugacy_rounds.specs.Apexes.{Apex, apex_at, apexes_from, LoneApex}
use Rattle.conjugacy_rounds.specs.ApexesLaws.{apex_own, apex_member, apexes_next, apexes_end, apexes_from_lem}
use Rattle.conjugacy_rounds.specs.Counting.{ApexOf, CoreOf, GroupOf, Counts}
use Rattle.conjugacy_rounds.specs.WholeLaws.{part_whole}

-- one part

pub counts_none : {c x ms row : List ℕ} {at : ℕ} → ms ≡ [] → Counts c x ms 0 row row at 0
unfolding most_rounds
counts_none e = record { count = rw e (omega arith); kept = refl }

pub counts_settled : {c : List ℕ} {conflicts : List (List ℕ)} {x : List ℕ} {apex : ℕ}
    {p word row row' : List ℕ} {at : ℕ} {e : Ends} → PartOf c conflicts x apex p row at
    → SettledOf c x apex word row row' at e → Counts c x (apex ∷ []) 0 row row' at e.rounds
unfolding most_rounds
counts_settled {row = row} {row'} {at} {e} k s = record {
  count = omega (arith, settled_rounds k s);
  kept = sym (take-take at e.cycled row' (omega (arith, s.ended.ends))) ∙ ap (take at) s.ended.written
      ∙ take_at (take at row) _ at (length-take-le at row (omega (arith, k.room)));
}

-- the part of command k + 1, its apex

module _ {c : List ℕ} {conflicts : List (List ℕ)} {x labels : List ℕ} {k : ℕ} {p row : List ℕ} {at : ℕ}
    (h : ApexOf c conflicts x labels k p row at) where
  -- where that is the only command with its label, of those up to it, there is no other
  alone_rounds : ((j : ℕ) → j < k → get_or labels j 0 ≡ k + 1 → ⊥) → part_rounds (alphabet c) (k + 1) x ≡ 0
  alone_rounds n =
      part_rounds_alone (alphabet c) (k + 1) x (occurs_all (alphabet c) (λ i. i ≡ k + 1) y only)
    where
      y : List ℕ
      y = part (alphabet c) (k + 1) x

      only : (i : ℕ) → Occurs (alphabet c) i y → i ≡ k + 1
      only i o =
          let (q, e) = part_occurs (alphabet c) (k + 1) x o in
          let (low, high) =
          all_occurs (alphabet c) (λ j. (1 ≤ j) × (j ≤ 24)) x (cyclic_lettered h.part.core) i q in
          let f : i - 1 + 1 ≡ i = omega arith in
          go (dec_lt (i - 1) k) low (part_largest (alphabet c) (k + 1) x o)
          (h.labelled.each (i - 1) (omega arith) ∙ ap (label (alphabet c) x) f ∙ e)
        where
          go : Dec (i - 1 < k) → 1 ≤ i → i ≤ k + 1 → get_or labels (i - 1) 0 ≡ k + 1 → i ≡ k + 1
          go (yes l) low u d = absurd (n (i - 1) l d)
          go (no m) low u d = omega arith

  pub counts_alone : ((j : ℕ) → j < k → get_or labels j 0 ≡ k + 1 → ⊥) → Counts c x ((k + 1) ∷ []) 0 row row at 0
  unfolding most_rounds
  counts_alone n = record { count = omega (arith, alone_rounds n); kept = refl }

  pub counts_own : {row' : List ℕ} {n : ℕ} → Counts c x (get_or labels k 0 ∷ []) 0 row row' at n
      → Counts c x ((k + 1) ∷ []) 0 row row' at n
  counts_own {row'} {n} s =
      subst (λ (ms : List ℕ). Counts c x ms 0 row row' at n) (ap (λ m. m ∷ []) h.own) s

-- in a core

module _ {c : List ℕ} {conflicts : List (List ℕ)} {x fs labels row : List ℕ} {at : ℕ}
    (h : CoreOf c conflicts x fs labels row at) {k : ℕ} (l : k < 24) where
  core_apex : Apex fs labels k → {p : List ℕ} → p ≡ part (alphabet c) (k + 1) x
      → ApexOf c conflicts x labels k p row at
  core_apex a {p} e = record {
    part = record {
      core = h.core.cyclic;
      apical = apex_member c x h.flags h.core.labelled k l a;
      letters = e ∙ ap (λ m. part (alphabet c) m x) (sym a.own);
      room = omega (arith, h.room, mul-le-mul_left (commands c) (part_short h.core.cyclic (get_or labels k 0)));
    };
    labelled = h.core.labelled;
    own = a.own;
  }

  -- the only part is the core itself
  module _ (o : LoneApex fs labels k) where
    lone_apexes : apexes_from fs labels 24 0 ≡ (k + 1) ∷ [] → part (alphabet c) (k + 1) x ≡ x
    lone_apexes e =
        part_whole (alphabet c) (k + 1) x (sym (apexes_from_lem c x h.flags h.core.labelled) ∙ e)

    pub lone_part : ApexOf c conflicts x labels k x row at
    lone_part = core_apex (o.apex l) (sym (lone_apexes (o.only l)))

    pub lone_counts : {row' : List ℕ} {n m most : ℕ} → Counts c x ((k + 1) ∷ []) 0 row row' at n → m ≡ max most n
        → Counts c x (apexes_from fs labels 24 0) most row row' at m
    lone_counts {n = n} {m} {most} s e = record {
      count = rw (o.only l) (omega (arith, s.count));
      kept = s.kept;
    }

-- in a grouped core the part is a slice

module _ {c : List ℕ} {conflicts : List (List ℕ)} {x word starts fs labels row : List ℕ} {at : ℕ}
    (h : GroupOf c conflicts x word starts fs labels row at) {k : ℕ} (l : k < 24) where
  pub group_apex : Apex fs labels k
      → ApexOf c conflicts x labels k (between (get_or starts (k + 1) 0) (get_or starts (k + 2) 0) word) row at
  group_apex a = core_apex h.core l a (slice_part h.grouped l)

  pub group_counts : Apex fs labels k → {row' : List ℕ} {n : ℕ} → Counts c x ((k + 1) ∷ []) 0 row row' at n
      → Counts c x (apex_at fs labels k) 0 row row' at n
  group_counts a {row'} {n} s =
      subst (λ (ms : List ℕ). Counts c x ms 0 row row' at n) (sym (apex_own fs labels k a)) s

-- a core can be grouped in a row of 1,024 bytes

module _ {c : List ℕ} {conflicts : List (List ℕ)} {x fs labels row : List ℕ} {at : ℕ}
    (h : CoreOf c conflicts x fs labels row at) where
  pub core_groupable : {out : List ℕ} → 1024 ≡ length out → Groupable c x labels out
  core_groupable e = record {
    lettered = cyclic_lettered h.core.cyclic;
    labelled = h.core.labelled;
    short = h.core.cyclic.short;
    fits = omega (arith, h.core.cyclic.short);
  }

-- the loop: the larger of what is found and what the parts from command j + 1 on need is what is asked

pub record Counting (conflicts : List (List ℕ)) (word starts fs labels : List ℕ) (k most : ℕ) (row : List ℕ) (at : ℕ)
    (row' : List ℕ) (found j : ℕ) : Type 0 where
  pub within : j ≤ 24
  pub many : length row' ≡ length row
  pub each : (c x : List ℕ) → GroupOf c conflicts x word starts fs labels row at
      → Counts c x (apexes_from fs labels (24 - k) k) most row row' at
      (max found (most_rounds (alphabet c) (apexes_from fs labels (24 - j) j) x))

module _ {conflicts : List (List ℕ)} {word starts fs labels : List ℕ} {k most : ℕ} {row : List ℕ} {at : ℕ} where
  pub counting_start : k ≤ 24 → Counting conflicts word starts fs labels k most row at row most k
  counting_start l = record { within = l; many = refl; each = λ c x h. record { count = refl; kept = refl } }

  module _ {row' : List ℕ} {found j : ℕ} (s : Counting conflicts word starts fs labels k most row at row' found j) where
    pub counting_core : {c x : List ℕ} → GroupOf c conflicts x word starts fs labels row at
        → GroupOf c conflicts x word starts fs labels row' at
    counting_core h = record {
      core = record {
        core = h.core.core;
        flags = h.core.flags;
        room = omega (arith, h.core.room, s.many);
      };
      grouped = h.grouped;
    }

    pub counting_again : {row'' : List ℕ} {n found' : ℕ} → j < 24 → length row'' ≡ length row'
        → ((c x : List ℕ) → GroupOf c conflicts x word starts fs labels row' at
        → Counts c x (apex_at fs labels j) 0 row' row'' at n)
        → found' ≡ max found n → Counting conflicts word starts fs labels k most row at row'' found' (j + 1)
    counting_again {row''} {n} {found'} l m f e = record { within = omega arith; many = m ∙ s.many; each = each }
      where
        each : (c x : List ℕ) → GroupOf c conflicts x word starts fs labels row at
            → Counts c x (apexes_from fs labels (24 - k) k) most row row'' at
            (max found' (most_rounds (alphabet c) (apexes_from fs labels (24 - (j + 1)) (j + 1)) x))
        each c x h =
            let t = f c x (counting_core h) in
            let d = ap (λ (ms : List ℕ). most_rounds (alphabet c) ms x) (apexes_next fs labels j l)
            ∙ most_append (alphabet c) (apex_at fs labels j) (apexes_from fs labels (24 - (j + 1)) (j + 1)) x in
            record {
              count = omega (arith, (s.each c x h).count, t.count, d, e);
              kept = t.kept ∙ (s.each c x h).kept;
            }

    pub counting_end : 24 ≤ j → (c x : List ℕ) → GroupOf c conflicts x word starts fs labels row at
        → Counts c x (apexes_from fs labels (24 - k) k) most row row' at found
    unfolding most_rounds
    counting_end l c x h =
        let d = ap (λ (ms : List ℕ). most_rounds (alphabet c) ms x) (apexes_end fs labels j l) in
        record { count = omega (arith, (s.each c x h).count, d); kept = (s.each c x h).kept }
