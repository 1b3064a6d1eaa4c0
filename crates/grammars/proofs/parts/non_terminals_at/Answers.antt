use Rattle.grammars.proofs.parts.non_terminals_at.Goals as goal

pub returns : goal.returns
returns c = cc
