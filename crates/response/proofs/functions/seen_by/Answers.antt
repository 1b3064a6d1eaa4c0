use Rattle.response.proofs.functions.seen_by.Goals as goal

pub returns : goal.returns
returns c = cc
