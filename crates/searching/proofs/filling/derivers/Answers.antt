use Rattle.searching.proofs.Members.{settle_pre, settled}
use native.Mathlib.Omega.{arith}
use mathlib.Core.Path.{sym}
use lib.Seq.{length-take-le}
use Rattle.searching.proofs.filling.derivers.Goals as goal

pub slice_bounds-settle-end-2 : goal.slice_bounds-settle-end-2
slice_bounds-settle-end-2 c =
    let priced = c.price_rules-kept.ensures in
    sym (length-take-le _ _ (omega (arith, priced.long, priced.within)))

pub settle-requires : goal.settle-requires
settle-requires c = settle_pre c.requires c.price_rules-kept.ensures

pub returns : goal.returns
returns c = settled c.requires c.price_rules-kept.ensures c.settle.ensures
