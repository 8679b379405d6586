-- `each_chain` decides line 5. The loop's invariant: every chain before command a ends, the rows hold its marks, and
-- the first command with each head is known.
use Rattle.std.proofs.Common.{arith, ap, sym, ◌∙◌, not}
use Rattle.spec.specs.Table.{line_at}
use Rattle.spec_laws.specs.SearchLaws.{search_again, search_hit, search_end}
use Rattle.spec.specs.Catalogue.{head_place}
use Rattle.input_catalogue.specs.SoundLaws.{decides_at, passes, some-none}
use Rattle.input_conflicts.specs.ChainLaws.{endless, chained_end}
use Rattle.input_conflicts.proofs.each_chain.Goals as goal

pub returns-then-not-chain_of : goal.returns-then-not-chain_of
returns-then-not-chain_of c =
    let cat = c.args.c.now.bytes.now in
    let h = c.args.c.now.laid in
    let stuck = ap not (sym c.chain_of.ensures.value ∙ c.if-not-chain_of.true) in
    let hit = search_hit (endless cat) c.loop-a.invariant.ending (omega (arith, h.commands)) stuck in
    let line = ap (line_at 5 0 (head_place cat)) hit in
    record {
      decides = decides_at cat 5 0 c.refused.result line c.refused.ensures c.head_place-place.ensures;
      met = λ e. absurd (some-none (sym line ∙ e));
    }

pub loop-a-preserved : goal.loop-a-preserved
loop-a-preserved c =
    let d = c.chain_of.ensures in
    let t = c.if-not-chain_of.false in
    record {
      ending =
          search_again (endless c.args.c.now.bytes.now) c.loop-a.invariant.ending (omega (arith, c.args.c.now.laid.commands))
          (ap not (sym d.value ∙ t));
      chained = d.chained t;
      known = d.known t;
      long = omega arith;
    }

pub returns : goal.returns
returns c =
    let cat = c.args.c.now.bytes.now in
    let h = c.args.c.now.laid in
    let g = c.loop-a.invariant in
    let end = search_end (endless cat) g.ending (omega (arith, h.commands)) in
    record {
      decides = passes cat (ap (line_at 5 0 (head_place cat)) end) h.commands;
      met = λ e. chained_end cat (omega (arith, h.commands)) g.chained;
    }
