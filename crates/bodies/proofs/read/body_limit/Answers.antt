use Rattle.bodies.proofs.Limits.{term_gathering, term_limited, term_nodes}
use Rattle.bodies.proofs.read.body_limit.Goals as goal

pub gather_terms-rows-requires : goal.gather_terms-rows-requires
gather_terms-rows-requires c = search term_gathering

pub word_past-place-requires : goal.word_past-place-requires
word_past-place-requires c = search term_nodes

pub returns : goal.returns
returns c = search term_limited
