-- `piling_stacks::Piling::put` meets its contract.
use Rattle.piling_stacks.specs.PilingLaws.{ready_room, put_piled}
use Rattle.piling_stacks.proofs.Piling.put.Goals as goal

pub bounds-self-h : goal.bounds-self-h
bounds-self-h c = ready_room c.requires.2 c.args.k c.requires.2.facing.within

pub returns : goal.returns
returns c = λ k z r. put_piled r c.lift.ensures
