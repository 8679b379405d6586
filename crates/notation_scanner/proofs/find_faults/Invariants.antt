-- `notation_scanner::find_faults` meets its contract. The loop's invariant: the machine has come to place i, in a state
-- of this mode and depth.
use Rattle.notation_scanner.specs.ScanLaws.{Scanning}
use Rattle.notation_scanner.proofs.find_faults.Given as goal

abbrev pub invariant-loop-i : goal.invariant-loop-i
invariant-loop-i l = Scanning l.text l.mode l.depth l.deep l.i
