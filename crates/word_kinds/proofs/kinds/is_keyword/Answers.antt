use Rattle.word_kinds.proofs.Forms.{keyword_is}
use Rattle.word_kinds.proofs.kinds.is_keyword.Goals as goal

pub returns : goal.returns
returns c = search keyword_is
