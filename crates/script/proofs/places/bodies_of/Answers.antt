use Rattle.script.specs.code.Places.{bodies_place}
use Rattle.script.proofs.TableParts.{tail_whole}
use Rattle.script.proofs.places.bodies_of.Goals as goal

pub returns : goal.returns
returns c = tail_whole bodies_place c.args.places.now
