use Prim.Native.Nat.{◌*◌}
use Rattle.derivation.specs.code.Rules.{rule_width}
use Rattle.term_nodes.proofs.OneRule.{row_written}
use lib.ListN.{length-set}
use native.Mathlib.Omega.{arith}
use Rattle.term_nodes.proofs.rules.put_rule.Goals as goal

pub bounds-rules-row-2 : goal.bounds-rules-row-2
bounds-rules-row-2 c = simp length-set (omega arith)

pub bounds-rules-row-3 : goal.bounds-rules-row-3
bounds-rules-row-3 c = simp length-set (omega arith)

pub returns : goal.returns
returns c = row_written c.args.rules.now (rule_width * c.args.rule) _ _ _
