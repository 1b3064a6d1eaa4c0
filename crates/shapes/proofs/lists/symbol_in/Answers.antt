use Rattle.shapes.proofs.ListItems.{part_symbol}
use Rattle.shapes.proofs.lists.symbol_in.Goals as goal

pub returns : goal.returns
returns c = search part_symbol
