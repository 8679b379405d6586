-- `schedule_chains::leads` meets its contract: what the laws of following say of the set.
use Rattle.std.proofs.Common.{arith}
use Rattle.array_sets.specs.SetsLaws.{empty_meeting}
use Rattle.array_sets.specs.MarksLaws.{conflicts_table}
use Rattle.schedule_chains.specs.FollowingLaws.{following_start, following_letter, following_again, following_end}
use Rattle.schedule_chains.specs.FollowingLaws.{letter_at, leads_not}
use Rattle.schedule_chains.proofs.leads.Goals as goal

pub returns-then-j-i : goal.returns-then-j-i
returns-then-j-i c = λ d g. leads_not d c.args.word.now c.args.i c.args.j c.if-j-i.true

pub add-requires : goal.add-requires
add-requires c =
    let (g, i, j) = c.requires in (
      omega (arith, letter_at g.1 c.args.i i),
      conflicts_table g.1.table,
      rw c.none-reached.ensures empty_meeting,
    )

pub loop-m-init : goal.loop-m-init
loop-m-init c =
    let (g, i, j) = c.requires in
    following_start g.1 c.args.i c.args.j (omega arith) i c.none-reached.ensures c.add.ensures

pub follow-requires : goal.follow-requires
follow-requires c = following_letter c.loop-m.invariant c.requires.0.1 (omega arith)

pub loop-m-preserved : goal.loop-m-preserved
loop-m-preserved c = following_again c.loop-m.invariant (omega arith) c.requires.2 c.follow.ensures

pub returns : goal.returns
returns c =
    following_end c.loop-m.invariant (omega arith) (omega arith) c.requires.2 c.independent.ensures
