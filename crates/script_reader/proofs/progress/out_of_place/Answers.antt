use Rattle.script_reader.proofs.progress.out_of_place.Goals as goal

pub returns : goal.returns
returns c = cc
