-- The demand on the program's input, proved as one value of its statement in the crate spec. For readers: no code
-- relies on it.
use Rattle.std.proofs.Common.{sym}
use Rattle.spec.specs.Demands.{FramingDemand}
use Rattle.loops_framing.specs.FramingLaws.{framed_parts, framed_well}

pub framing_demand : FramingDemand
framing_demand = record {
  parts = framed_parts;
  whole = λ f. let (well, c, v, w) = framed_well f in (well, sym c, sym v, sym w);
}
