-- `first_wrong` searches. The loop's invariant: the search of every test that the closure computes has come to i + 1.
use Rattle.std.proofs.Common.{◌+◌, arith, sym, true, false}
use Rattle.spec_laws.specs.SearchLaws.{search_again, search_hit, search_end}
use Rattle.input_catalogue.proofs.first_wrong.Goals as goal

pub returns-then-wrong-clause-first : goal.returns-then-wrong-clause-first
returns-then-wrong-clause-first g c =
    λ p same.
    search_hit p (c.loop-i.invariant p same) (omega arith)
    (sym (same (c.loop-i.i + 1) true (omega arith) (omega arith) c.if-wrong.ensures))

pub loop-i-preserved : goal.loop-i-preserved
loop-i-preserved g c =
    λ p same.
    search_again p (c.loop-i.invariant p same) (omega arith)
    (sym (same (c.loop-i.i + 1) false (omega arith) (omega arith) c.if-wrong.ensures))

pub returns-clause-first : goal.returns-clause-first
returns-clause-first g c = λ p same. search_end p (c.loop-i.invariant p same) (omega arith)
