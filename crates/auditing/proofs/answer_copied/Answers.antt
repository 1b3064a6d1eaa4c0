use Rattle.auditing.proofs.FileAnswer.{response-within, script_within, texts_copied}
use Rattle.auditing.proofs.answer_copied.Goals as goal

pub copy_part-requires : goal.copy_part-requires
copy_part-requires c = script_within c.requires

pub copy_part-requires-2 : goal.copy_part-requires-2
copy_part-requires-2 c = response-within c.requires c.copy_part.auto.out

pub answer_texts-requires : goal.answer_texts-requires
answer_texts-requires c = texts_copied c.requires c.copy_part.auto.out c.copy_part.ensures c.copy_part-2.ensures
