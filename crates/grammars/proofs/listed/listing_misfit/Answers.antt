use Rattle.grammars.proofs.Listing.{groups_list, listing_group, listing_long, listing_short, listing_start, listing_turn, listing_whole}
use Rattle.lexemes.proofs.Listed.{as_item, item_ahead, list_room}
use native.Mathlib.Omega.{arith}
use Rattle.grammars.proofs.listed.listing_misfit.Goals as goal

pub overflow_sub-close : goal.overflow_sub-close
overflow_sub-close c = omega (arith, item_ahead (as_item (groups_list c.requires)) c.next_at-close.ensures)

pub overflow_add-group : goal.overflow_add-group
overflow_add-group c = omega (arith, list_room (groups_list c.requires))

pub loop-row-init : goal.loop-row-init
loop-row-init c = listing_start c.requires c.next_at-close.ensures (omega arith) (omega arith)

pub returns-then-group-close : goal.returns-then-group-close
returns-then-group-close c = search listing_short

pub group_misfit-requires : goal.group_misfit-requires
group_misfit-requires c = search listing_group

pub loop-row-preserved : goal.loop-row-preserved
loop-row-preserved c = search listing_turn

pub returns-then-group-close-2 : goal.returns-then-group-close-2
returns-then-group-close-2 c = search listing_long

pub returns : goal.returns
returns c = search listing_whole
