-- `call_forms::core` meets its contract: with a row of its own for the pairs it is never refused by line 12.
use native.Mathlib.Omega.{arith}
use mathlib.Core.Path.{◌∙◌}
use Rattle.call_forms.specs.FormingLaws.{alone_answer, alone_bytes}
use Rattle.call_forms.proofs.core.Goals as goal

pub returns : goal.returns
returns c =
    let w = c in
    let o = w in record {
      answer = c.length_alone.ensures ∙ alone_answer w.write_form.ensures (omega (arith, o.own_pairs-pairs.ensures));
      bytes = alone_bytes w.write_form.ensures (omega (arith, o.own_pairs-pairs.ensures));
    }
