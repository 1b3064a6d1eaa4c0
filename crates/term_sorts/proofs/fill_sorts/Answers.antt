use Rattle.std.specs.Prelude.{◌≡◌, ◌-◌, ◌&&◌, cond, eqb}
use Rattle.term_sorts.proofs.Filling.{filled_begins, filled_ends, filled_goes, node_before, number_fits, operands_after}
use Rattle.term_sorts.proofs.fill_sorts.Goals as goal
use Rattle.term_sorts.proofs.fill_sorts.Goals.{else-whole-sort, then-whole-sort}

pub loop-node-init : goal.loop-node-init
loop-node-init c = search filled_begins

pub operands_sorted-whole-requires : goal.operands_sorted-whole-requires
operands_sorted-whole-requires c = search operands_after

pub node_sort-sort-requires : goal.node_sort-sort-requires
node_sort-sort-requires c = search node_before

pub overflow_cast-column : goal.overflow_cast-column
overflow_cast-column c = search number_fits

pub loop-node-preserved : goal.loop-node-preserved
loop-node-preserved c =
    let found : c.if-whole-sort.fault ≡ cond (c.operands_sorted-whole.result && eqb c.node_sort-sort.result 0) (c.loop-node.node - 1) c.loop-node.fault =
    elim c.if-whole-sort.branch [
      | then-whole-sort w ↦ rw w.if-whole-sort.true w.fault-is
      | else-whole-sort w ↦ rw w.if-whole-sort.false w.fault-is
    ]
    in
    search filled_goes

pub returns : goal.returns
returns c = search filled_ends
