use Rattle.script_reader.proofs.progress.said.Goals as goal

pub returns : goal.returns
returns c = cc
