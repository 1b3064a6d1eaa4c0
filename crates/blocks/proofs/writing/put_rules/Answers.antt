use Rattle.blocks.proofs.Putting.{rules_end, rules_fit, rules_on, rules_start}
use native.Mathlib.Omega.{arith}
use Rattle.blocks.proofs.writing.put_rules.Goals as goal

pub loop-rule-init : goal.loop-rule-init
loop-rule-init c = rules_start c.requires

pub put_number-place-requires : goal.put_number-place-requires
put_number-place-requires c = record { size_low = omega arith; fitting = rules_fit c.loop-rule.invariant c.loop-rule-test.true c.from.ensures }

pub loop-rule-preserved : goal.loop-rule-preserved
loop-rule-preserved c = rules_on c.loop-rule.invariant c.loop-rule-test.true c.from.ensures c.put_number-place.ensures

pub shape_of-area : goal.shape_of-area
shape_of-area c = c.loop-rule.invariant.going.long

pub returns : goal.returns
returns c = search rules_end
