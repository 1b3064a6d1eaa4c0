use Rattle.script.proofs.SortsPut.{all_sorted, sort_put}
use Rattle.script.proofs.signatures.put_sorts.Goals as goal

pub loop-k-preserved : goal.loop-k-preserved
loop-k-preserved c = search sort_put

pub returns : goal.returns
returns c = search all_sorted
