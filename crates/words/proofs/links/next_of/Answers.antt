use Rattle.words.proofs.Chains.{next_open, next_word}
use Rattle.words.proofs.links.next_of.Goals as goal

pub returns-then-kind_at-eq-OPEN : goal.returns-then-kind_at-eq-OPEN
returns-then-kind_at-eq-OPEN c = search next_open

pub returns : goal.returns
returns c = search next_word
