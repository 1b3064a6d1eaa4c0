use Rattle.word_kinds.proofs.Forms.{marked_keyword, marked_other}
use Rattle.word_kinds.proofs.kinds.marked_of.Goals as goal

pub returns-then-is_keyword : goal.returns-then-is_keyword
returns-then-is_keyword c = search marked_keyword

pub returns : goal.returns
returns c = search marked_other
