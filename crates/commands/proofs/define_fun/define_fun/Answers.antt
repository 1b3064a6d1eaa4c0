use native.Mathlib.Omega.{arith}
use Rattle.script.proofs.WordsBelow.{command_word}
use Rattle.commands.proofs.DefinitionLimits.{body_at, definition_tested, its_header, limit_refused, within_limits}
use Rattle.commands.proofs.define_fun.define_fun.Goals as goal

pub overflow_add-at : goal.overflow_add-at
overflow_add-at c = let d = c.requires.of in omega (arith, command_word d.here, d.here.few)

pub body_limit-body-requires : goal.body_limit-body-requires
body_limit-body-requires c = body_at c.next_at.ensures c.next_at-result.ensures c.next_at-2.ensures c.requires

pub head_past-head-requires : goal.head_past-head-requires
head_past-head-requires c = its_header c.requires

pub returns-then-past-nowhere : goal.returns-then-past-nowhere
returns-then-past-nowhere c = limit_refused c.next_at.ensures c.next_at-result.ensures c.next_at-2.ensures c.body_limit-body.ensures c.command_past-before.ensures c.head_past-head.ensures c.least.ensures c.least-past.ensures c.if-past-nowhere.true c.verdict.ensures

pub define_within-requires : goal.define_within-requires
define_within-requires c = within_limits c.next_at.ensures c.next_at-result.ensures c.next_at-2.ensures c.body_limit-body.ensures c.command_past-before.ensures c.head_past-head.ensures c.least.ensures c.least-past.ensures c.if-past-nowhere.false c.requires

pub returns : goal.returns
returns c = definition_tested c.next_at.ensures c.next_at-result.ensures c.next_at-2.ensures c.body_limit-body.ensures c.command_past-before.ensures c.head_past-head.ensures c.least.ensures c.least-past.ensures c.if-past-nowhere.false c.define_within.ensures
