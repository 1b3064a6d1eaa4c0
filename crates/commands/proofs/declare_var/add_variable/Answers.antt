use Rattle.commands.proofs.VariablePut.{bytes_fit, sort_small, variable_added, word_fits}
use Rattle.commands.proofs.VariableItems.{sort_here, sort_room}
use native.Mathlib.Omega.{arith}
use borrow.Author.Rules.{rules}
use Rattle.commands.proofs.declare_var.add_variable.Goals as goal

pub overflow_add-at : goal.overflow_add-at
overflow_add-at c = omega (arith, sort_room c.requires.here)

pub sort_of-sort-requires : goal.sort_of-sort-requires
sort_of-sort-requires c = search sort_here

pub overflow_cast-sort : goal.overflow_cast-sort
overflow_cast-sort c = record { fits = omega (arith, sort_small c.requires c.sort_of-sort.ensures) }

pub overflow_add-at-2 : goal.overflow_add-at-2
overflow_add-at-2 c = omega (arith, sort_room c.requires.here)

pub overflow_add-at-3 : goal.overflow_add-at-3
overflow_add-at-3 c = omega (arith, sort_room c.requires.here)

pub put_name-requires : goal.put_name-requires
put_name-requires c = record { names = search rules; row_lt_row_count = search rules; place_lt_words_told = search word_fits; word_len_bound = search bytes_fit }

pub returns : goal.returns
returns c = search variable_added
