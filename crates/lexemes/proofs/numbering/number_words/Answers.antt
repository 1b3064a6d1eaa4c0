use Rattle.lexemes.proofs.Filling.{filling_begins, filling_ends, filling_goes, row_room, word_end, word_start}
use Rattle.lexemes.proofs.numbering.number_words.Goals as goal

pub loop-word-init : goal.loop-word-init
loop-word-init c = filling_begins _ _ _

pub slice_bounds-code_of-count : goal.slice_bounds-code_of-count
slice_bounds-code_of-count c = search word_start

pub slice_bounds-code_of-start : goal.slice_bounds-code_of-start
slice_bounds-code_of-start c = search word_start

pub slice_bounds-code_of-end : goal.slice_bounds-code_of-end
slice_bounds-code_of-end c = search word_end

pub code_of-code-requires : goal.code_of-code-requires
code_of-code-requires c =
    record {
      first_are = record { names_are = c.first_names-names.ensures; starts_are = c.first_starts-starts.ensures; slots_are = c.first_slots-slots.ensures };
      operators_are = record { names_are = c.operator_names-names_of_operators.ensures; starts_are = c.operator_starts-starts_of_operators.ensures; slots_are = c.operator_slots-slots_of_operators.ensures };
    }

pub put_row-requires : goal.put_row-requires
put_row-requires c = row_room c.requires c.loop-word-test.true c.loop-word.invariant

pub loop-word-preserved : goal.loop-word-preserved
loop-word-preserved c = filling_goes c.requires c.loop-word-test.true c.loop-word.invariant c.start_at-start.ensures c.end_at-end.ensures c.kind_at.ensures c.code_of-code.ensures c.put_row.ensures

pub shape_of-lexemes : goal.shape_of-lexemes
shape_of-lexemes c = c.loop-word.invariant.long

pub returns : goal.returns
returns c = search filling_ends
