-- `each_chain` decides line 5. The loop's invariant: every chain before command a ends, the rows hold its marks, and
-- the first command with each head is known.
use mathlib.Core.Path.{◌≡◌}
use lib.ListN.{length}
use Rattle.spec_laws.specs.SearchLaws.{Searching}
use Rattle.spec.specs.Catalogue.{commands}
use Rattle.input_conflicts.specs.Known.{Chained, Known}
use Rattle.input_conflicts.specs.ChainLaws.{endless}
use Rattle.input_conflicts.proofs.each_chain.Given as goal

abbrev pub invariant-loop-a : goal.invariant-loop-a
invariant-loop-a l = record {
  ending : Searching (endless l.c.bytes.now) (commands l.c.bytes.now) 1 l.a;
  chained : Chained l.c.bytes.now l.a l.rows;
  known : Known l.c.bytes.now l.a l.own l.firsts;
  long : length l.firsts ≡ length l.initial.firsts;
}
