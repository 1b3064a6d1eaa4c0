use Rattle.both_texts.proofs.EightTotals.{numbers_written}
use borrow.Author.Rules.{rules}
use Rattle.both_texts.proofs.answers.write_answer.Goals as goal

pub returns : goal.returns
returns c = numbers_written _ (search rules)
