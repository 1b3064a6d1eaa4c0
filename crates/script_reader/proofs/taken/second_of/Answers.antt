use Rattle.script_reader.proofs.taken.second_of.Goals as goal

pub taken_place-requires : goal.taken_place-requires
taken_place-requires c = c.requires c.if-verdict-ne-NAME.false
