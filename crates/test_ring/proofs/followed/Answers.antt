use Rattle.test_ring.proofs.Ring.{followed_pre}
use Rattle.test_ring.proofs.followed.Goals as goal

pub follows-requires : goal.follows-requires
follows-requires c = followed_pre
