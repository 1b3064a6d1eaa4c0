use Prim.Native.Nat.{◌-◌}
use lib.ListN.{length}
use Rattle.words.proofs.ScanTurns.{Scanning}
use Rattle.words.proofs.scan.scan_text.Given as goal

abbrev pub invariant-loop-start : goal.invariant-loop-start
invariant-loop-start l = Scanning l.limits l.text l.initial.table l.initial.values l.table l.values l.count l.depth l.start

abbrev pub decreases-loop-start : goal.decreases-loop-start
decreases-loop-start l = length l.text - l.start
