use Rattle.term_faults.proofs.Seeking.{filling, node_found, none_found}
use Rattle.term_faults.proofs.bodies.fault_word.Goals as goal

pub fill_sorts-fault-requires : goal.fill_sorts-fault-requires
fill_sorts-fault-requires c = search filling

pub returns-then-fault-count : goal.returns-then-fault-count
returns-then-fault-count c = search node_found

pub returns : goal.returns
returns c = search none_found
