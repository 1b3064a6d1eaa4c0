use Rattle.shapes.proofs.WholeRules.{item_made}
use Rattle.lexemes.proofs.Listed.{alone}
use Rattle.shapes.proofs.whole_rules.item_uncarried.Goals as goal

pub any_uncarried-requires : goal.any_uncarried-requires
any_uncarried-requires c = alone c.requires c.next_at.ensures

pub returns : goal.returns
returns c = search item_made
