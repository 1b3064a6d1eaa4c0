use Rattle.script.proofs.WordsBelow.{command_word}
use Rattle.commands.proofs.StatedTests.{limit_refused, stated_fits, stated_judging, stated_known, term_at, term_refused}
use native.Mathlib.Omega.{arith}
use Rattle.commands.proofs.state.state.Goals as goal

pub overflow_add-command : goal.overflow_add-command
overflow_add-command c = let d = c.requires.of in omega (arith, command_word d.here, d.here.few)

pub body_limit-body-requires : goal.body_limit-body-requires
body_limit-body-requires c = search term_at

pub returns-then-past-nowhere : goal.returns-then-past-nowhere
returns-then-past-nowhere c = search limit_refused

pub judge_body-judged-requires : goal.judge_body-judged-requires
judge_body-judged-requires c = search stated_judging

pub returns-then-judged-gt0 : goal.returns-then-judged-gt0
returns-then-judged-gt0 c = term_refused c.body_limit-body.ensures c.stated_before-stated.ensures c.most_stated.ensures c.command_past-before.ensures c.least-past.ensures c.if-past-nowhere.false c.judge_body-judged.ensures c.if-judged-gt0.true

pub overflow_add-first_stated : goal.overflow_add-first_stated
overflow_add-first_stated c = omega (arith, stated_fits c.body_limit-body.ensures c.stated_before-stated.ensures c.most_stated.ensures c.command_past-before.ensures c.least-past.ensures c.if-past-nowhere.false c.first_stated.ensures c.requires)

pub put_stated-requires : goal.put_stated-requires
put_stated-requires c = stated_fits c.body_limit-body.ensures c.stated_before-stated.ensures c.most_stated.ensures c.command_past-before.ensures c.least-past.ensures c.if-past-nowhere.false c.first_stated.ensures c.requires

pub returns : goal.returns
returns c = stated_known c.body_limit-body.ensures c.stated_before-stated.ensures c.most_stated.ensures c.command_past-before.ensures c.least-past.ensures c.if-past-nowhere.false c.judge_body-judged.ensures c.if-judged-gt0.false c.first_stated.ensures c.put_stated.ensures
