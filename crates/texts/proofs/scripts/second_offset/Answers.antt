use Rattle.texts.proofs.ScriptText.{second_none, second_there}
use Rattle.texts.proofs.scripts.second_offset.Goals as goal

pub returns-then-word-eq0 : goal.returns-then-word-eq0
returns-then-word-eq0 c = search second_none

pub returns : goal.returns
returns c = search second_there
