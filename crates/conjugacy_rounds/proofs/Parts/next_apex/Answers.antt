-- `conjugacy_rounds::Parts::next_apex` meets its contract. The loop's invariant: the apexes from k on are those
-- from j on. Assumes nothing.
use mathlib.Core.Path.{sym, ◌∙◌}
use mathlib.Core.Bool.{true≢false}
use Rattle.conjugacy_rounds.specs.ApexesLaws.{searching_again}
use Rattle.conjugacy_rounds.proofs.Parts.next_apex.Goals as goal

pub loop-j-preserved : goal.loop-j-preserved
loop-j-preserved c =
    searching_again c.loop-j.invariant c.loop-j-test.true
    (λ a. true≢false (sym (c.is_apex.ensures.1 a) ∙ c.if-is_apex.false))
