use Rattle.shapes.proofs.ListItems.{long, not_so_many}
use Rattle.shapes.proofs.Shaped.{set_logic_made}
use native.Mathlib.Omega.{arith}
use Rattle.shapes.proofs.forms.set_logic_shape.Goals as goal

pub returns-then-count_in-ne2 : goal.returns-then-count_in-ne2
returns-then-count_in-ne2 c = λ here. rw (not_so_many c.count_in.ensures c.if-count_in-ne2.true here)

pub symbol_in-requires : goal.symbol_in-requires
symbol_in-requires c = long c.requires c.count_in.ensures (omega arith)

pub returns : goal.returns
returns c = set_logic_made c.count_in.ensures c.if-count_in-ne2.false c.symbol_in.ensures
