use Rattle.lexemes.proofs.Listed.{alone}
use Rattle.shapes.proofs.terms.term_shape.Goals as goal

pub term_shapes-requires : goal.term_shapes-requires
term_shapes-requires c = alone c.requires c.next_at.ensures

pub returns : goal.returns
returns c = λ here. c.term_shapes.ensures (alone here c.next_at.ensures)
