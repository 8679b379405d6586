-- `piling_left::blank` meets its contract. The loop's invariant: the places from i on are left. Assumes nothing.
use Rattle.piling_left.specs.BlankLaws.{Blanking}
use Rattle.piling_left.proofs.blank.Given as goal

abbrev pub invariant-loop-place : goal.invariant-loop-place
invariant-loop-place l = Blanking l.initial.word l.places l.word l.place-index
