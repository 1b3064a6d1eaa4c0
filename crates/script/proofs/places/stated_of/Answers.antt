use Rattle.script.specs.code.Places.{constraints_place, stated_count}
use Rattle.script.proofs.TableParts.{part_whole}
use Rattle.script.proofs.places.stated_of.Goals as goal

pub returns : goal.returns
returns c = part_whole constraints_place stated_count c.args.places.now
