use Rattle.script_reader.proofs.TakenByCode.{no_place, variable_listed, variable_place, word_low}
use Rattle.script_reader.proofs.TakenByCode.{definition_header, definition_listed, definition_place, function_at, function_listed, function_place}
use native.Mathlib.Omega.{arith}
use Rattle.script_reader.proofs.taken.taken_place.Goals as goal

pub overflow_add-command : goal.overflow_add-command
overflow_add-command c = omega (arith, word_low c.requires)

pub earlier_place-requires : goal.earlier_place-requires
earlier_place-requires c = search variable_listed

pub returns-then-code-eq-DECLARE_VAR : goal.returns-then-code-eq-DECLARE_VAR
returns-then-code-eq-DECLARE_VAR c = search variable_place

pub arguments_in-requires : goal.arguments_in-requires
arguments_in-requires c = search definition_header

pub earlier_place-requires-then-code-eq-DEFINE_FUN : goal.earlier_place-requires-then-code-eq-DEFINE_FUN
earlier_place-requires-then-code-eq-DEFINE_FUN c = search definition_listed

pub returns-then-code-eq-DEFINE_FUN : goal.returns-then-code-eq-DEFINE_FUN
returns-then-code-eq-DEFINE_FUN c = search definition_place

pub header_of-header-requires : goal.header_of-header-requires
header_of-header-requires c = search function_at

pub earlier_place-requires-then-code-eq-SYNTH_FUN : goal.earlier_place-requires-then-code-eq-SYNTH_FUN
earlier_place-requires-then-code-eq-SYNTH_FUN c = search function_listed

pub returns-then-code-eq-SYNTH_FUN : goal.returns-then-code-eq-SYNTH_FUN
returns-then-code-eq-SYNTH_FUN c = search function_place

pub returns : goal.returns
returns c = search no_place
