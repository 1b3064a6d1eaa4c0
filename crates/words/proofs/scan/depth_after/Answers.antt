use Rattle.words.proofs.Faults.{depth_close, depth_open, depth_same}
use Rattle.words.proofs.scan.depth_after.Goals as goal

pub returns-then-number-eq-OPEN : goal.returns-then-number-eq-OPEN
returns-then-number-eq-OPEN c = search depth_open

pub returns-then-number-depth : goal.returns-then-number-depth
returns-then-number-depth c = search depth_close

pub returns : goal.returns
returns c = search depth_same
