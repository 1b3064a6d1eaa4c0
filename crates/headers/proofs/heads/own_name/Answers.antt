use Rattle.headers.proofs.HeadParts.{bytes_fit, head_room, word_fits}
use Rattle.headers.proofs.Named.{name_here, own_fits, own_named, result-sort, sort_small}
use native.Mathlib.Omega.{arith}
use borrow.Author.Rules.{rules}
use Rattle.headers.proofs.heads.own_name.Goals as goal

pub overflow_add-at : goal.overflow_add-at
overflow_add-at c = omega (arith, head_room c.requires)

pub sort_of-sort-requires : goal.sort_of-sort-requires
sort_of-sort-requires c = search result-sort

pub overflow_cast-sort : goal.overflow_cast-sort
overflow_cast-sort c = let p = c.requires in record { fits = omega (arith, sort_small p c.next_at.ensures c.next_at-result.ensures c.sort_of-sort.ensures) }

pub overflow_add-at-2 : goal.overflow_add-at-2
overflow_add-at-2 c = omega (arith, head_room c.requires)

pub new_name-place-requires : goal.new_name-place-requires
new_name-place-requires c = search name_here

pub overflow_add-at-3 : goal.overflow_add-at-3
overflow_add-at-3 c = omega (arith, head_room c.requires)

pub overflow_add-at-4 : goal.overflow_add-at-4
overflow_add-at-4 c = omega (arith, head_room c.requires)

pub put_name-requires : goal.put_name-requires
put_name-requires c = record { names = search rules; row_lt_row_count = search own_fits; place_lt_words_told = search word_fits; word_len_bound = search bytes_fit }

pub returns : goal.returns
returns c = search own_named
