-- The cycle of calls {item, items} meets its contracts: a blank writes nothing, a command its byte, a group what stands
-- in its brackets, copied and undone, and a sequence what its items write.
use Rattle.std.proofs.Common.{ℕ, ◌+◌, ◌<◌, ◌≤◌, ◌≡◌, true, false, List, length, drop, arith, sym}
use Rattle.spec.specs.Answers.{yes_no}
use Rattle.spec.specs.Notation.{tokens}
use Rattle.notation_laws.specs.Here.{goes_on, is_blank, is_opening, is_minus, number_of, GroupFirst}
use Rattle.notation_parts.specs.declared.Number.{Number}
use Rattle.notation_parts.specs.Numbers.{NumberRead}
use Rattle.notation_parts.specs.PlaceLaws.{blank_mark, opening_mark, marked_within}
use Rattle.notation_parts.specs.StepLaws.{Plain, step_command, step_group}
use Rattle.notation_parts.specs.GroupLaws.{group_within, group_small, Counted}
use Rattle.notation_writer.specs.Writing.{Room}
use Rattle.notation_writer.specs.WritingLaws.{write_start, write_room, write_again, write_end}
use Rattle.notation_writer.specs.ItemLaws.{minus_before, blank_written, command_fits, command_onward}
use Rattle.notation_writer.specs.ItemLaws.{command_written, group_none, group_room, group_repeats}
use Rattle.notation_writer.specs.ItemLaws.{group_undoes, group_written}
use Rattle.notation_writer.proofs.+item_items.Goals as goal

module _ (s : List ℕ) (at : ℕ) {from : ℕ} (f : from ≡ at + yes_no (is_minus (drop at (tokens s)))) where
  -- a command stands at place `at`, its digits at place `from`
  plain : goes_on (drop at (tokens s)) ≡ true → false ≡ is_blank (drop at (tokens s))
      → false ≡ is_opening (drop from (tokens s)) → Plain s at from
  plain g b o = record { place = f; goes = g; no_blank = sym b; no_bracket = sym o }

  -- a group stands at place `at`, its bracket at place `from`
  module _ (o : true ≡ is_opening (drop from (tokens s))) {d : ℕ} {area : List ℕ} {to : ℕ}
      (m : Room s at d area to) where
    abbrev first : GroupFirst (is_minus (drop at (tokens s))) (drop (from + 1) (tokens s)) m.here.rest m.here.says d
    first = step_group s at m.here f (sym o)

    bracket_within : from < length s
    bracket_within = marked_within s from 40 (sym o)

    -- what stands in the brackets ends at place `end`, and the count behind them is q
    abbrev counted : (end : ℕ) {q : Number} → drop end (tokens s) ≡ first.inner.rest
        → NumberRead s (number_of (drop (end + 1) (tokens s))) (end + 1) q
        → Counted s (is_minus (drop at (tokens s))) (from + 1) d q m.here.rest m.here.says
    counted end {q} l n = record { first = first; end = end; left = l; count = n }

-- `item`: a blank

pub item-stands-requires : goal.item-stands-requires
item-stands-requires t c = blank_mark

pub item-returns-then-stands-clause-wrote_part : goal.item-returns-then-stands-clause-wrote_part
item-returns-then-stands-clause-wrote_part t c = λ m. blank_written m c.requires.1 (sym c.if-stands.ensures)

-- a command

pub item-stands-requires-2 : goal.item-stands-requires-2
item-stands-requires-2 t c = opening_mark

pub item-number_at-n-requires : goal.item-number_at-n-requires
item-number_at-n-requires t c =
    let s = c.args.text.now in
    let p = plain s c.args.at c.past_minus-from.ensures c.requires.1 c.if-stands.ensures c.if-not-stands.ensures in
    (step_command s c.args.at c.requires.0.here p).small

pub item-overflow_cast-n : goal.item-overflow_cast-n
item-overflow_cast-n t c =
    let s = c.args.text.now in
    let p = plain s c.args.at c.past_minus-from.ensures c.requires.1 c.if-stands.ensures c.if-not-stands.ensures in
    omega (arith, (step_command s c.args.at c.requires.0.here p).high, c.number_at-n.ensures.value)

pub item-bounds-area-to : goal.item-bounds-area-to
item-bounds-area-to t c =
    let s = c.args.text.now in
    command_fits c.requires.0
    (plain s c.args.at c.past_minus-from.ensures c.requires.1 c.if-stands.ensures c.if-not-stands.ensures)

pub item-returns-then-not-stands-clause-wrote_part : goal.item-returns-then-not-stands-clause-wrote_part
item-returns-then-not-stands-clause-wrote_part t c =
    let s = c.args.text.now in
    let f = c.past_minus-from.ensures in
    let p = plain s c.args.at f c.requires.1 c.if-stands.ensures c.if-not-stands.ensures in
    λ m. command_written m p c.number_at-n.ensures c.signed.ensures (minus_before _ _ _ f)

pub item-returns-then-not-stands-clause-at_lt_at : goal.item-returns-then-not-stands-clause-at_lt_at
item-returns-then-not-stands-clause-at_lt_at t c =
    let s = c.args.text.now in
    let p = plain s c.args.at c.past_minus-from.ensures c.requires.1 c.if-stands.ensures c.if-not-stands.ensures in
    command_onward c.requires.0 p c.number_at-n.ensures

-- a group

pub item-overflow_sub-nesting : goal.item-overflow_sub-nesting
item-overflow_sub-nesting t c =
    (first c.args.text.now c.args.at c.past_minus-from.ensures c.if-not-stands.ensures c.requires.0).deep

pub item-items-inner-requires : goal.item-items-inner-requires
item-items-inner-requires t c =
    let s = c.args.text.now in
    let g = first s c.args.at c.past_minus-from.ensures c.if-not-stands.ensures c.requires.0 in
    let w = bracket_within s c.args.at c.past_minus-from.ensures c.if-not-stands.ensures c.requires.0 in
    (g.inner, omega (arith, w))

pub item-overflow_add-inner : goal.item-overflow_add-inner
item-overflow_add-inner t c =
    let s = c.args.text.now in
    let g = first s c.args.at c.past_minus-from.ensures c.if-not-stands.ensures c.requires.0 in
    omega (arith, group_within s g c.items-inner.result.end (c.items-inner.ensures g.inner).left)

pub item-number_at-count-requires : goal.item-number_at-count-requires
item-number_at-count-requires t c =
    let s = c.args.text.now in
    let g = first s c.args.at c.past_minus-from.ensures c.if-not-stands.ensures c.requires.0 in
    group_small s g c.items-inner.result.end (c.items-inner.ensures g.inner).left

-- a group that is written no times

pub item-returns-then-count-eq0-clause-wrote_part : goal.item-returns-then-count-eq0-clause-wrote_part
item-returns-then-count-eq0-clause-wrote_part t c =
    let s = c.args.text.now in
    let f = c.past_minus-from.ensures in
    let o = c.if-not-stands.ensures in
    λ m.
    let i = c.items-inner.ensures (first s c.args.at f o m).inner in
    group_none m (counted s c.args.at f o m _ i.left c.number_at-count.ensures) (omega arith)

pub item-returns-then-count-eq0-clause-at_lt_at : goal.item-returns-then-count-eq0-clause-at_lt_at
item-returns-then-count-eq0-clause-at_lt_at t c =
    let g = first c.args.text.now c.args.at c.past_minus-from.ensures c.if-not-stands.ensures c.requires.0 in
    omega (
      arith,
      c.past_minus-from.ensures,
      (c.items-inner.ensures g.inner).onward,
      c.number_at-count.ensures.onward,
    )

-- a group that is written

pub item-overflow_sub-nesting-2 : goal.item-overflow_sub-nesting-2
item-overflow_sub-nesting-2 t c =
    (first c.args.text.now c.args.at c.past_minus-from.ensures c.if-not-stands.ensures c.requires.0).deep

pub item-items-once-requires : goal.item-items-once-requires
item-items-once-requires t c =
    let s = c.args.text.now in
    let f = c.past_minus-from.ensures in
    let o = c.if-not-stands.ensures in
    let m = c.requires.0 in
    let g = first s c.args.at f o m in
    let k = counted s c.args.at f o m _ (c.items-inner.ensures g.inner).left c.number_at-count.ensures in
    let w = bracket_within s c.args.at f o m in
    (omega (arith, c.decreases, g.deep), (group_room m k (omega arith), omega (arith, w)))

pub item-repeat-end-requires-clause-in_order : goal.item-repeat-end-requires-clause-in_order
item-repeat-end-requires-clause-in_order t c =
    let s = c.args.text.now in
    let f = c.past_minus-from.ensures in
    let o = c.if-not-stands.ensures in
    let m = c.requires.0 in
    let i = c.items-inner.ensures (first s c.args.at f o m).inner in
    let k = counted s c.args.at f o m _ i.left c.number_at-count.ensures in
    let n : 1 ≤ c.number_at-count.result.value = omega arith in
    (group_repeats m k n (c.items-once.ensures (group_room m k n))).0

pub item-repeat-end-requires-clause-room : goal.item-repeat-end-requires-clause-room
item-repeat-end-requires-clause-room t c =
    let s = c.args.text.now in
    let f = c.past_minus-from.ensures in
    let o = c.if-not-stands.ensures in
    let m = c.requires.0 in
    let i = c.items-inner.ensures (first s c.args.at f o m).inner in
    let k = counted s c.args.at f o m _ i.left c.number_at-count.ensures in
    let n : 1 ≤ c.number_at-count.result.value = omega arith in
    (group_repeats m k n (c.items-once.ensures (group_room m k n))).1.1

pub item-undo_if-requires : goal.item-undo_if-requires
item-undo_if-requires t c =
    let s = c.args.text.now in
    let f = c.past_minus-from.ensures in
    let o = c.if-not-stands.ensures in
    let m = c.requires.0 in
    let i = c.items-inner.ensures (first s c.args.at f o m).inner in
    let k = counted s c.args.at f o m _ i.left c.number_at-count.ensures in
    let n : 1 ≤ c.number_at-count.result.value = omega arith in
    let w = c.items-once.ensures (group_room m k n) in
    let g = group_undoes m k n w c.repeat-end.ensures in
    omega (arith, g)

pub item-returns-clause-wrote_part : goal.item-returns-clause-wrote_part
item-returns-clause-wrote_part t c =
    let s = c.args.text.now in
    let f = c.past_minus-from.ensures in
    let o = c.if-not-stands.ensures in
    let n : 1 ≤ c.number_at-count.result.value = omega arith in
    λ m.
    let i = c.items-inner.ensures (first s c.args.at f o m).inner in
    let k = counted s c.args.at f o m _ i.left c.number_at-count.ensures in
    group_written m k n (c.items-once.ensures (group_room m k n)) c.repeat-end.ensures c.undo_if.ensures
    (minus_before _ _ _ f)

pub item-returns-clause-at_lt_at : goal.item-returns-clause-at_lt_at
item-returns-clause-at_lt_at t c =
    let g = first c.args.text.now c.args.at c.past_minus-from.ensures c.if-not-stands.ensures c.requires.0 in
    omega (
      arith,
      c.past_minus-from.ensures,
      (c.items-inner.ensures g.inner).onward,
      c.number_at-count.ensures.onward,
    )

-- `items`

pub items-loop-area-init : goal.items-loop-area-init
items-loop-area-init t c = record { written = λ m. write_start m c.requires.1; onward = omega arith }

pub items-item-reached-requires : goal.items-item-reached-requires
items-item-reached-requires t c =
    let m = c.requires.0 in
    (omega (arith, c.decreases), (write_room m (c.loop-area.invariant.written m), sym c.loop-area-test.ensures))

pub items-loop-area-preserved : goal.items-loop-area-preserved
items-loop-area-preserved t c = record {
  written = λ m.
      let w = c.loop-area.invariant.written m in
      write_again m w (c.item-reached.ensures.wrote_part (write_room m w));
  onward = omega (arith, c.loop-area.invariant.onward, c.item-reached.ensures.at_lt_at);
}

pub items-returns : goal.items-returns
items-returns t c = λ m.
    write_end m (c.loop-area.invariant.written m) (sym c.loop-area-test.ensures) c.loop-area.invariant.onward
