use native.Mathlib.Omega.{arith}
use Rattle.test_ring.proofs.Ring.{ring_pre}
use Rattle.test_ring.proofs.main.Goals as goal

pub derive-requires : goal.derive-requires
derive-requires c = ring_pre (omega arith) c.unused_area-area.ensures
