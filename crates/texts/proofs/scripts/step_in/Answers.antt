use Rattle.texts.proofs.scripts.step_in.Goals as goal

pub returns : goal.returns
returns c = cc
