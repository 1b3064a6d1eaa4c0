use Rattle.bodies.proofs.Names.{term_named, term_resolving}
use Rattle.bodies.proofs.read.body_names.Goals as goal

pub write_forms-requires : goal.write_forms-requires
write_forms-requires c = search term_resolving

pub returns : goal.returns
returns c = search term_named
