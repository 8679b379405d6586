-- `piling_pairs::pile` meets its contract. The loop's invariant: the rows hold the piling of the bytes passed, newest
-- and below the places of its letters, and the area the pairs found, under every catalogue that the call allows.
use Rattle.piling_pairs.specs.PairingLaws.{Piling}
use Rattle.piling_pairs.proofs.pile.Given as goal

abbrev pub invariant-loop-i : goal.invariant-loop-i
invariant-loop-i l =
    Piling l.plan l.conflicts l.initial.piling.rows l.initial.piling.heights l.initial.pairs l.piling.rows l.piling.heights l.places.newest l.places.below l.pairs l.read l.n l.i
