use Rattle.term_faults.proofs.BodyFaults.{body_root, part_found, whole_found}
use Rattle.term_faults.proofs.bodies.body_fault.Goals as goal

pub returns-then-fault-nowhere : goal.returns-then-fault-nowhere
returns-then-fault-nowhere c = part_found c.fault_word-fault.ensures c.if-fault-nowhere.true

pub root_misfit-requires : goal.root_misfit-requires
root_misfit-requires c =
    body_root c.fault_word-fault.ensures c.requires

pub returns : goal.returns
returns c = whole_found c.fault_word-fault.ensures c.if-fault-nowhere.false c.root_misfit.ensures
