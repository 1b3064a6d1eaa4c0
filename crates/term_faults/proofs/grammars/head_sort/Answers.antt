use Rattle.term_faults.proofs.Heading.{head_there}
use Rattle.term_faults.proofs.grammars.head_sort.Goals as goal

pub returns-then-head-listed : goal.returns-then-head-listed
returns-then-head-listed c = search head_there
