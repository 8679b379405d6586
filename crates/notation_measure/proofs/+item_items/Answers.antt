-- The cycle of calls {item, items} meets its contracts: an item is a blank, a command or a group, and a sequence is the
-- items that stand in it.
use Rattle.std.proofs.Common.{ℕ, ◌+◌, ◌<◌, ◌≡◌, true, List, length, drop, arith, refl, sym}
use Rattle.spec.specs.Answers.{yes_no}
use Rattle.spec.specs.Notation.{tokens}
use Rattle.notation_laws.specs.Here.{Here, is_opening, is_minus, GroupFirst, number_of}
use Rattle.notation_parts.specs.declared.Number.{Number}
use Rattle.notation_parts.specs.Numbers.{NumberRead}
use Rattle.notation_parts.specs.PlaceLaws.{blank_mark, opening_mark, marked_within}
use Rattle.notation_parts.specs.StepLaws.{Plain, step_group}
use Rattle.notation_parts.specs.GroupLaws.{group_within, group_small, Counted}
use Rattle.notation_measure.specs.PartLaws.{item_blank, command_number, item_command, group_room, item_group}
use Rattle.notation_measure.specs.SofarLaws.{parts_start, parts_again, parts_end}
use Rattle.notation_measure.proofs.+item_items.Goals as goal

-- a group stands at place `at`, its bracket at place `from`
module _ (s : List ℕ) (at : ℕ) {d : ℕ} (h : Here (drop at (tokens s)) d) {from : ℕ}
    (f : from ≡ at + yes_no (is_minus (drop at (tokens s)))) (o : true ≡ is_opening (drop from (tokens s))) where
  abbrev first : GroupFirst (is_minus (drop at (tokens s))) (drop (from + 1) (tokens s)) h.rest h.says d
  first = step_group s at h f (sym o)

  bracket_within : from < length s
  bracket_within = marked_within s from 40 (sym o)

  -- what stands in the brackets ends at place `end`, and the count behind them is q
  abbrev counted : (end : ℕ) {q : Number} → drop end (tokens s) ≡ first.inner.rest
      → NumberRead s (number_of (drop (end + 1) (tokens s))) (end + 1) q
      → Counted s (is_minus (drop at (tokens s))) (from + 1) d q h.rest h.says
  counted end {q} l n = record { first = first; end = end; left = l; count = n }

-- `item`: a blank

pub item-stands-requires : goal.item-stands-requires
item-stands-requires t c = blank_mark

pub item-returns-then-stands-clause-part : goal.item-returns-then-stands-clause-part
item-returns-then-stands-clause-part t c = λ h. item_blank _ _ _ h c.requires.1 (sym c.if-stands.ensures)

-- a command

pub item-stands-requires-2 : goal.item-stands-requires-2
item-stands-requires-2 t c = opening_mark

pub item-command-requires : goal.item-command-requires
item-command-requires t c =
    command_number c.args.text.now c.args.at c.requires.0
    (record {
      place = c.past_minus-from.ensures;
      goes = c.requires.1;
      no_blank = sym c.if-stands.ensures;
      no_bracket = sym c.if-not-stands.ensures;
    })

pub item-returns-then-not-stands-clause-part : goal.item-returns-then-not-stands-clause-part
item-returns-then-not-stands-clause-part t c =
    let p : Plain c.args.text.now c.args.at c.past_minus-from.result = record {
      place = c.past_minus-from.ensures;
      goes = c.requires.1;
      no_blank = sym c.if-stands.ensures;
      no_bracket = sym c.if-not-stands.ensures;
    } in
    λ h. item_command _ _ _ h p _ c.command.ensures refl

-- a group

pub item-overflow_sub-nesting : goal.item-overflow_sub-nesting
item-overflow_sub-nesting t c =
    (first c.args.text.now c.args.at c.requires.0 c.past_minus-from.ensures c.if-not-stands.ensures).deep

pub item-items-inner-requires : goal.item-items-inner-requires
item-items-inner-requires t c =
    let s = c.args.text.now in
    let g = first s c.args.at c.requires.0 c.past_minus-from.ensures c.if-not-stands.ensures in
    let w = bracket_within s c.args.at c.requires.0 c.past_minus-from.ensures c.if-not-stands.ensures in
    (omega (arith, c.decreases, g.deep), (g.inner, omega (arith, w)))

pub item-overflow_add-inner : goal.item-overflow_add-inner
item-overflow_add-inner t c =
    let s = c.args.text.now in
    let g = first s c.args.at c.requires.0 c.past_minus-from.ensures c.if-not-stands.ensures in
    omega (arith, group_within s g c.items-inner.result.end (c.items-inner.ensures g.inner).left)

pub item-number_at-count-requires : goal.item-number_at-count-requires
item-number_at-count-requires t c =
    let s = c.args.text.now in
    let g = first s c.args.at c.requires.0 c.past_minus-from.ensures c.if-not-stands.ensures in
    group_small s g c.items-inner.result.end (c.items-inner.ensures g.inner).left

pub item-grouped-requires : goal.item-grouped-requires
item-grouped-requires t c =
    let s = c.args.text.now in
    let h = c.requires.0 in
    let g = first s c.args.at h c.past_minus-from.ensures c.if-not-stands.ensures in
    let i = c.items-inner.ensures g.inner in
    group_room c.args.commands s c.args.at h
    (counted s c.args.at h c.past_minus-from.ensures c.if-not-stands.ensures _ i.left c.number_at-count.ensures) i

pub item-returns-clause-part : goal.item-returns-clause-part
item-returns-clause-part t c =
    let s = c.args.text.now in
    λ h.
    let g = first s c.args.at h c.past_minus-from.ensures c.if-not-stands.ensures in
    let i = c.items-inner.ensures g.inner in
    item_group c.args.commands s c.args.at h
    (counted s c.args.at h c.past_minus-from.ensures c.if-not-stands.ensures _ i.left c.number_at-count.ensures) i _
    c.grouped.ensures

pub item-returns-clause-at_lt_end : goal.item-returns-clause-at_lt_end
item-returns-clause-at_lt_end t c =
    let g = first c.args.text.now c.args.at c.requires.0 c.past_minus-from.ensures c.if-not-stands.ensures in
    omega (
      arith,
      c.past_minus-from.ensures,
      (c.items-inner.ensures g.inner).onward,
      c.number_at-count.ensures.onward,
      c.grouped.ensures.end,
    )

-- `items`

pub items-loop-all-init : goal.items-loop-all-init
items-loop-all-init t c = parts_start _ _ _ _ c.requires.1

pub items-item-requires : goal.items-item-requires
items-item-requires t c =
    (omega (arith, c.decreases), ((c.loop-all.invariant.part c.requires.0).behind, sym c.loop-all-test.ensures))

pub items-joined-all-requires : goal.items-joined-all-requires
items-joined-all-requires t c =
    let p = c.loop-all.invariant.part c.requires.0 in
    (p.low, (c.item.ensures.part p.behind).low)

pub items-loop-all-preserved : goal.items-loop-all-preserved
items-loop-all-preserved t c =
    parts_again _ _ _ _ c.loop-all.invariant _ _ c.item.ensures.part c.item.ensures.at_lt_end c.joined-all.ensures

pub items-returns : goal.items-returns
items-returns t c = λ h. parts_end _ _ _ _ c.loop-all.invariant (sym c.loop-all-test.ensures) h
