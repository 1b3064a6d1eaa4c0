use Rattle.headers.proofs.PairsHeld.{pass_end, pass_few, pass_many, pass_other, pass_pair, pass_start, pass_turn}
use Rattle.headers.proofs.compare.pairs_differ.Goals as goal

pub loop-argument-init : goal.loop-argument-init
loop-argument-init c = search pass_start

pub returns-then-at-close : goal.returns-then-at-close
returns-then-at-close c = search pass_few

pub pair_differs-found-requires : goal.pair_differs-found-requires
pair_differs-found-requires c = search pass_pair

pub returns-then-is_some : goal.returns-then-is_some
returns-then-is_some c = search pass_other

pub loop-argument-preserved : goal.loop-argument-preserved
loop-argument-preserved c = search pass_turn

pub returns-then-at-close-2 : goal.returns-then-at-close-2
returns-then-at-close-2 c = search pass_many

pub returns-else-at-close-2 : goal.returns-else-at-close-2
returns-else-at-close-2 c = search pass_end
