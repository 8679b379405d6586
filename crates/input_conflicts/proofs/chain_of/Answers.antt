-- `chain_of` walks a chain, or marks it as that of the first command with the same head.
use native.Mathlib.Omega.{arith}
use mathlib.Core.Path.{sym, ◌∙◌}
use Rattle.input_conflicts.specs.KnownLaws.{like_ends, like_chained, like_known, walked_chained}
use Rattle.input_conflicts.specs.KnownLaws.{walked_known}
use Rattle.input_conflicts.proofs.chain_of.Goals as goal

pub returns-then-b-ne0 : goal.returns-then-b-ne0
returns-then-b-ne0 c =
    let k = c.args.c.now.bytes.now in
    let a = c.args.a in
    let q = c.requires in
    let walked = q.known.walked c.head_of-h.result (omega arith) in
    let e = c.head_of-h.ensures.head in
    record {
      value = like_ends k q.sound a q.in_range.0 q.in_range.1 q.known e walked;
      chained = λ t. like_chained k q.sound a q.in_range.0 q.in_range.1 q.known e walked q.chained c.mark_like.ensures;
      known = λ t. like_known k q.sound a q.in_range.0 q.in_range.1 q.known;
    }

pub returns : goal.returns
returns c =
    let k = c.args.c.now.bytes.now in
    let a = c.args.a in
    let q = c.requires in
    let w = c.walk.ensures in
    record {
      value = w.value;
      chained = λ t. walked_chained k q.sound a q.in_range.0 q.in_range.1 q.chained w.rows_after;
      known = λ t.
          walked_known k q.sound a q.in_range.0 q.in_range.1 q.known c.head_of-h.ensures.head w.own_after
          (sym t ∙ w.value);
    }
