-- Two cores that are grouped: their parts can be counted and joined, and where the grouped words are the same, so are
-- the cores, up to swaps.
use Rattle.std.specs.Prelude.{ℕ, ◌≡◌, refl, List, length, take}
use Rattle.theory_words.specs.Trace as Trace
use Rattle.spec.specs.Letters.{alphabet}
use Rattle.conjugacy_parts.specs.Group.{Groupable}
use Rattle.conjugacy_parts.specs.GroupedLaws.{grouped_same}
use Rattle.conjugacy_settled_parts.specs.PartOfLaws.{cyclic_lettered}
use Rattle.conjugacy_rounds.specs.Counting.{GroupOf}
use Rattle.conjugacy_rounds.specs.CountingLaws.{core_groupable}
use Rattle.conjugacy_of_cores.specs.Pair.{Groups, Joinable, Coreable}
use Rattle.conjugacy_of_cores.specs.CountLaws.{joinable_first, joinable_second}

module _ {c : List ℕ} {conflicts : List (List ℕ)} {x y fs labels row : List ℕ} {at : ℕ}
    (h : Joinable c conflicts x y fs labels row at) where
  pub joinable_coreable : Coreable c conflicts x y row at
  joinable_coreable = record {
    first = h.flagged.two.first;
    second = h.flagged.two.second;
    room = h.room;
  }

  pub first_groupable : {out : List ℕ} → 1024 ≡ length out → Groupable c x labels out
  first_groupable e = core_groupable (joinable_first h) e

  pub second_groupable : {out : List ℕ} → 1024 ≡ length out → Groupable c y labels out
  second_groupable e = core_groupable (joinable_second h {row' = row} refl) e

  module _ {word other starts ends : List ℕ} (g : Groups c x y word starts other ends) where
    pub groups_first : GroupOf c conflicts x word starts fs labels row at
    groups_first = record { core = joinable_first h; grouped = g.first }

    pub groups_second : {row' : List ℕ} → length row' ≡ length row
        → GroupOf c conflicts y other ends fs labels row' at
    groups_second e = record { core = joinable_second h e; grouped = g.second }

    pub groups_same : take (length x) word ≡ take (length y) other → Trace.◌~◌ (alphabet c) x y
    groups_same e =
        grouped_same (cyclic_lettered h.flagged.two.first) (cyclic_lettered h.flagged.two.second) g.first
        g.second e
