use Rattle.searching.proofs.Uses.{price_low, price_known, price_of_plain, price_end_low, price_not_yet, price_light, price_small, price_sum}
use native.Mathlib.Omega.{arith}
use Rattle.searching.proofs.filling.price.Goals as goal

pub has-requires : goal.has-requires
has-requires c = price_low c.requires c.non_terminal_at.ensures

pub returns-then-has : goal.returns-then-has
returns-then-has c = search price_known

pub returns-then-code_at-ne-NON_TERMINAL : goal.returns-then-code_at-ne-NON_TERMINAL
returns-then-code_at-ne-NON_TERMINAL c = search price_of_plain

pub has-requires-2 : goal.has-requires-2
has-requires-2 c = price_end_low c.requires c.start_at-start.ensures c.code_at.ensures c.if-code_at-ne-NON_TERMINAL.false c.value_at-next.ensures

pub returns-then-not-has : goal.returns-then-not-has
returns-then-not-has c = search price_not_yet

pub overflow_mul-result : goal.overflow_mul-result
overflow_mul-result c = omega (arith, price_light c.requires c.weight_at.ensures)

pub overflow_add-result : goal.overflow_add-result
overflow_add-result c = omega (arith, price_light c.requires c.weight_at.ensures)

pub overflow_add-result-2 : goal.overflow_add-result-2
overflow_add-result-2 c = omega (arith, price_light c.requires c.weight_at.ensures, price_small c.requires _ c.entry_at-2.ensures)

pub returns : goal.returns
returns c = search price_sum
