-- What writing a part of a text leaves in an area.
use Rattle.std.specs.Prelude.{ℕ, ◌+◌, ◌≤◌, ◌≡◌, List, ◌++◌, length, drop}
use Rattle.spec.specs.Notation.{tokens, plan_of, size_of}
use Rattle.array_row.specs.Row.{Appended}
use Rattle.notation_laws.specs.Here.{Here}
use Rattle.notation_writer.specs.declared.Reached.{Reached}

-- a sequence stands at place `at` of the text s, nested at most d deep, and what it writes out fits the area behind
-- `to`
pub record Room (s : List ℕ) (at d : ℕ) (area : List ℕ) (to : ℕ) : Type 0 where
  pub here : Here (drop at (tokens s)) d
  pub fits : to + size_of here.says ≤ length area

-- all that the sequence says is written out
pub record Wrote (s : List ℕ) (at d : ℕ) (area : List ℕ) (to : ℕ) (m : Room s at d area to) (after : List ℕ)
    (r : Reached) : Type 0 where
  pub bytes : Appended area to (plan_of m.here.says) after r.to
  pub left : drop r.at (tokens s) ≡ m.here.rest
  pub onward : at ≤ r.at
  pub within : r.at ≤ length s

-- what the sequence says up to the place r .at is written out, and from there on the rest of it stands
pub record WrotePart (s : List ℕ) (at d : ℕ) (area : List ℕ) (to : ℕ) (m : Room s at d area to) (after : List ℕ)
    (r : Reached) : Type 0 where
  pub behind : Here (drop r.at (tokens s)) d
  pub same_rest : behind.rest ≡ m.here.rest
  pub part : List ℕ
  pub bytes : Appended area to part after r.to
  pub plan : plan_of m.here.says ≡ part ++ plan_of behind.says
  pub within : r.at ≤ length s
