-- `piling_equal::equals` meets its contract. The loop's invariant: of the word piled up, with the bytes passed undone,
-- `spare` letters fewer than the bytes left are left.
use Rattle.piling_equal.specs.ComparingLaws.{Undoing}
use Rattle.piling_equal.proofs.equals.Given as goal

abbrev pub invariant-loop-byte : goal.invariant-loop-byte
invariant-loop-byte l =
    Undoing l.w l.conflicts l.initial.piling.rows l.initial.piling.heights l.n l.piling.rows l.piling.heights l.spare l.byte-iterator.iter.rest.now
