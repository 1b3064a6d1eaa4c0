use Prim.Native.Nat.{◌+◌, ◌-◌, ◌*◌}
use lib.ListN.{length}
use Rattle.searching.proofs.Track.{Inv}
use Rattle.searching.proofs.showing.+emit_spread.Given as goal

abbrev pub decreases-emit : goal.decreases-emit
decreases-emit l = 2 * (length l.body.now - l.node) + 1

abbrev pub decreases-spread : goal.decreases-spread
decreases-spread l = 2 * (length l.body.now - l.node)

abbrev pub invariant-spread-loop-place : goal.invariant-spread-loop-place
invariant-spread-loop-place l = Inv l.rules l.forms l.body l.choices l.node l.rule l.initial.shown l.at l.end l.shown l.place l.here l.next
