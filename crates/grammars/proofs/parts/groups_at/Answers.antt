use Rattle.grammars.proofs.parts.groups_at.Goals as goal

pub returns : goal.returns
returns c = cc
