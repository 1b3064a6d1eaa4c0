use Rattle.term_faults.proofs.Rooted.{root_within, side_fits, side_misfits}
use native.Mathlib.Omega.{arith}
use Rattle.term_faults.proofs.roots.side_misfit.Goals as goal

pub bounds-column-node : goal.bounds-column-node
bounds-column-node c = omega (arith, root_within c.requires)

pub overflow_cast-column : goal.overflow_cast-column
overflow_cast-column c = omega (arith, c.type_inv.column c.args.node)

pub returns-then-column-node : goal.returns-then-column-node
returns-then-column-node c = side_fits _ _ c.if-column-node.true

pub returns : goal.returns
returns c = side_misfits _ _ c.if-column-node.false c.first_at.ensures c.rule_first.ensures
