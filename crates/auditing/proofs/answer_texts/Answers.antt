use Rattle.auditing.proofs.FileAnswer.{texts_given}
use Rattle.auditing.proofs.answer_texts.Goals as goal

pub returns : goal.returns
returns c = search texts_given
