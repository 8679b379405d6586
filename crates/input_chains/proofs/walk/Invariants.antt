-- `walk` follows one chain. The loop's invariant: what is still to come of the chain, marked onto the rows and noted as
-- they are, gives what the whole chain gives.
use Rattle.std.proofs.Common.{◌-◌}
use Rattle.spec.specs.Catalogue.{records}
use Rattle.input_chains.specs.WalkLaws.{Walking}
use Rattle.input_chains.proofs.walk.Given as goal

abbrev pub invariant-loop : goal.invariant-loop
invariant-loop l = Walking l.c.bytes.now l.a l.initial.rows l.rows l.initial.own l.own (records l.c.bytes.now - l.counter) l.at
