use mathlib.Core.Bool.{not}
use mathlib.Core.Path.{ap}
use Rattle.searching.proofs.Top.{show_no, show_yes, emit_pre}
use Rattle.searching.proofs.showing.show.Goals as goal

pub returns-then-not-has : goal.returns-then-not-has
returns-then-not-has c =
    show_no c.fill_masks.auto.masks c.fill_masks.auto.choices c.fill_masks.ensures
    c.mask_at.ensures c.has.ensures (ap not c.if-not-has.true)

pub emit-requires : goal.emit-requires
emit-requires c =
    emit_pre c.fill_masks.auto.masks c.fill_masks.auto.choices c.fill_masks.ensures
    c.mask_at.ensures c.has.ensures (ap not c.if-not-has.false) c.requires

pub returns : goal.returns
returns c =
    show_yes c.fill_masks.auto.masks c.fill_masks.auto.choices c.fill_masks.ensures
    c.mask_at.ensures c.has.ensures (ap not c.if-not-has.false)
    c.emit.ensures c.rank_at.ensures
