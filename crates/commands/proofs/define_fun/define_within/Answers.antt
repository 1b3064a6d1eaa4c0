use native.Mathlib.Omega.{arith}
use Rattle.script.proofs.WordsBelow.{command_word}
use Rattle.commands.proofs.DefinitionItems.{arguments_before, header_here, result_low}
use Rattle.commands.proofs.DefinitionSettled.{arguments_here, definition_judging, definition_known, definition_refused, head_at, putting, result_here}
use Rattle.commands.proofs.define_fun.define_within.Goals as goal

pub overflow_add-command : goal.overflow_add-command
overflow_add-command c = let d = c.requires.of in omega (arith, command_word d.here, d.here.few)

pub overflow_add-arguments : goal.overflow_add-arguments
overflow_add-arguments c = let d = c.requires.of in omega (arith, arguments_before d c.next_at-arguments.ensures c.next_at-result.ensures, result_low d c.next_at-arguments.ensures c.next_at-result.ensures)

pub overflow_sub-result : goal.overflow_sub-result
overflow_sub-result c = omega (arith, arguments_before c.requires.of c.next_at-arguments.ensures c.next_at-result.ensures)

pub count_items-count-requires : goal.count_items-count-requires
count_items-count-requires c = arguments_here c.next_at-arguments.ensures c.next_at-result.ensures c.requires

pub sort_of-sort-requires : goal.sort_of-sort-requires
sort_of-sort-requires c = result_here c.next_at-arguments.ensures c.next_at-result.ensures c.requires

pub header_place-empty-requires : goal.header_place-empty-requires
header_place-empty-requires c = header_here c.requires.of

pub define_names-named-requires : goal.define_names-named-requires
define_names-named-requires c = head_at c.requires

pub judge_body-judged-requires : goal.judge_body-judged-requires
judge_body-judged-requires c = definition_judging c.next_at-arguments.ensures c.next_at-result.ensures c.count_items-count.ensures c.sort_of-sort.ensures c.define_names-named.ensures c.requires

pub returns-then-judged-gt0 : goal.returns-then-judged-gt0
returns-then-judged-gt0 c = definition_refused c.next_at-arguments.ensures c.next_at-result.ensures c.count_items-count.ensures c.sort_of-sort.ensures c.define_names-named.ensures c.header_place-empty.ensures c.judge_body-judged.ensures c.if-judged-gt0.true

pub put_definition-requires : goal.put_definition-requires
put_definition-requires c = putting c.next_at-arguments.ensures c.next_at-result.ensures c.count_items-count.ensures c.sort_of-sort.ensures c.define_names-named.ensures c.requires

pub returns : goal.returns
returns c = definition_known c.next_at-arguments.ensures c.next_at-result.ensures c.count_items-count.ensures c.sort_of-sort.ensures c.define_names-named.ensures c.header_place-empty.ensures c.judge_body-judged.ensures c.if-judged-gt0.false c.put_definition.ensures
