use borrow.Author.Tests.{not-false, not-true}
use Rattle.both_texts.proofs.Locating.{none_located, response_located, script_located}
use Rattle.both_texts.proofs.located.locate.Goals as goal

pub returns-then-not-carries : goal.returns-then-not-carries
returns-then-not-carries c = search (none_located, not-true)

pub returns-then-outcome-eq-SCRIPT : goal.returns-then-outcome-eq-SCRIPT
returns-then-outcome-eq-SCRIPT c = search (script_located, not-false)

pub returns : goal.returns
returns c = search (response_located, not-false)
