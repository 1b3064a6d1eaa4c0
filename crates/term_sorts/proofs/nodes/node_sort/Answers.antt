use mathlib.Core.Bool.{not}
use mathlib.Core.Path.{ap}
use Rattle.term_sorts.proofs.NodeSorts.{call_ready, called_node, leaf_node, node_fails, operator_node, operands_ready, row_low}
use native.Mathlib.Omega.{arith}
use Rattle.term_sorts.proofs.nodes.node_sort.Goals as goal

pub returns-then-not-whole : goal.returns-then-not-whole
returns-then-not-whole c = search node_fails

pub operator_sort-requires : goal.operator_sort-requires
operator_sort-requires c =
    search operands_ready

pub returns-then-kind-eq-OPERATOR : goal.returns-then-kind-eq-OPERATOR
returns-then-kind-eq-OPERATOR c = search operator_node

pub overflow_add-row : goal.overflow_add-row
overflow_add-row c =
    omega (
      arith,
      row_low (ap not c.if-not-whole.false) c.operands_at-count.ensures c.code_at-code.ensures c.value_at-value.ensures c.kind_of-kind.ensures
          c.if-kind.true c.first_row.ensures c.requires,
    )

pub called_sort-requires : goal.called_sort-requires
called_sort-requires c =
    call_ready (ap not c.if-not-whole.false) c.operands_at-count.ensures c.code_at-code.ensures c.value_at-value.ensures c.kind_of-kind.ensures
    c.if-kind.true c.first_row.ensures c.requires

pub returns-then-kind : goal.returns-then-kind
returns-then-kind c = search called_node

pub returns : goal.returns
returns c = search leaf_node
