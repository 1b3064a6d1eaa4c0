-- "The limit itself passes; one more is refused": texts at the limits on commands, arguments, non-terminals, rules, nodes, operands, weights, and digits and widths of
-- constants and one past them, computed from the definitions. A place is a word.
use mathlib.Core.List.{List, [], ◌∷◌, map}
use mathlib.Core.Path.{◌≡◌, refl}
use Rattle.derivation.specs.Least.{total_of}
use Rattle.derivation.specs.Productive.{form_yields, one_pass, passes}
use Rattle.derivation.specs.Sorts.{form_sorts, item_sort}
use Rattle.forest.specs.Forest.{count, join, nodes_of}
use Rattle.forest.specs.Lists.{same_bytes}
use Rattle.forest.specs.Search.{place_in}
use Rattle.grammars.specs.Grammars.{dead_place}
use Rattle.grammars.specs.Listing.{dead_misfit, listing_misfit}
use Rattle.headers.specs.Tokens.{argument_tokens, differing, words_in}
use Rattle.lexemes.specs.Lists.{after, all_numerals, inside, item, items_of}
use Rattle.lexemes.specs.Reserved.{is_one_of, is_reserved, reserved_words}
use Rattle.names.specs.Earlier.{earlier, last_before}
use Rattle.names.specs.New.{named_by, new_pairs}
use Rattle.names.specs.Scopes.{forms_of, in_order, is_known, is_named, symbol_means}
use Rattle.names.specs.Unknown.{unknown_in}
use Rattle.operators.specs.Operators.{named, operator_at, operator_of, operator_sort, operators}
use Rattle.operators.specs.Sorts.{sort_by}
use Rattle.operators.specs.Values.{chained, group_left, group_right, pairwise, with_each}
use Rattle.script.specs.Response.{answered, in_script_order, judged_all, judged_body, judged_extra}
use Rattle.script.specs.Script.{grammar_place, judged, known_after, limit_place, name_place, new_names, read_all, sorting_place, terms_in, tested}
use Rattle.shapes.specs.Carried.{any_of, any_uncarried, before, command_uncarried, is_not_carried}
use Rattle.shapes.specs.Shapes.{all, attributes_shape, command_shape, term_shapes}
use Rattle.term_faults.specs.Faults.{rule_misfit, term_fault}
use Rattle.term_nodes.specs.Rules.{nodes_past, rule_past, rules_in, rules_of, sides}
use Rattle.term_nodes.specs.Terms.{constants_past, node_word, raw_terms}
use Rattle.terms.specs.Sorts.{called_sort, label_sort, same_sorts, sort_over, with_sort}
use Rattle.word_kinds.specs.Decimals.{is_decimal}
use Rattle.word_kinds.specs.Kinds.{all_in, formed, hashed, keyword_form, kind_of, literal as literal_kind, marked, numeral as numeral_kind, spelled, symbol as symbol_kind}
use Rattle.words.specs.Spans.{run_end, starts_from, word_end, word_starts}
use Rattle.words.specs.Trees.{levels_at, levels_before, trees_from}
use Rattle.words.specs.Words.{bytes_at, word_at, words_of}
use Rattle.written_sorts.specs.Written.{least_in}
use Rattle.test_decided.proofs.Readings.{Reading, defined, row}

-- The limit on operands constraint.
abbrev operands_constraint_texts : List Reading
operands_constraint_texts =
    row "(set-logic BV)(synth-fun f () Bool ((A Bool)) ((A Bool (true))))(declare-var p Bool)(constraint (and p p p p p p p p p p p p p p p p p p p p p p p p p p p p p p p p p p p p p p p p p p p p p p p p p p p p p p p p p p p p p p p p p p p p p p p p p p p p p p p p p p p p p p p p p p p p p p p p p p p p p p p p p p p p p p p p p p p p p p p p p p p p p p p p p p p p p p p p p p p p p p p p p p p p p p p p p p p p p p p p p p p p p p p p p p p p p p p p p p p p p p p p p p p p p p p p p p p p p p p p p p p p p p p p p p p p p p p p p p p p p p p p p p p p p p p p p p p p p p p p p p p p p p p p p p p p p p p))(check-synth)" "((define-fun f () Bool true))" []
    ∷ row "(set-logic BV)(synth-fun f () Bool ((A Bool)) ((A Bool (true))))(declare-var p Bool)(constraint (and p p p p p p p p p p p p p p p p p p p p p p p p p p p p p p p p p p p p p p p p p p p p p p p p p p p p p p p p p p p p p p p p p p p p p p p p p p p p p p p p p p p p p p p p p p p p p p p p p p p p p p p p p p p p p p p p p p p p p p p p p p p p p p p p p p p p p p p p p p p p p p p p p p p p p p p p p p p p p p p p p p p p p p p p p p p p p p p p p p p p p p p p p p p p p p p p p p p p p p p p p p p p p p p p p p p p p p p p p p p p p p p p p p p p p p p p p p p p p p p p p p p p p p p p p p p p p p p p))(check-synth)" "" (4 ∷ 290 ∷ 0 ∷ [])
    ∷ []

-- The definitions answer every one of them so.
pub operands_constraint_held : map defined operands_constraint_texts ≡ map (λ (r : Reading). r.answer) operands_constraint_texts
unfolding after all all_in all_numerals answered any_of any_uncarried argument_tokens attributes_shape before bytes_at called_sort chained command_shape command_uncarried constants_past count dead_misfit dead_place differing earlier form_sorts form_yields formed forms_of grammar_place group_left group_right hashed in_order in_script_order inside is_decimal is_known is_named is_not_carried is_one_of is_reserved item item_sort items_of join judged judged_all judged_body judged_extra keyword_form kind_of known_after label_sort last_before least_in levels_at levels_before limit_place listing_misfit literal_kind marked name_place named named_by new_names new_pairs node_word nodes_of nodes_past numeral_kind one_pass operator_at operator_of operator_sort operators pairwise passes place_in raw_terms read_all reserved_words rule_misfit rule_past rules_in rules_of run_end same_bytes same_sorts sides sort_by sort_over sorting_place spelled starts_from symbol_kind symbol_means term_fault term_shapes terms_in tested total_of trees_from unknown_in with_each with_sort word_at word_end word_starts words_in words_of
operands_constraint_held = refl

-- The limit on operands rule.
abbrev operands_rule_texts : List Reading
operands_rule_texts =
    row "(set-logic BV)(synth-fun f ((p Bool)) Bool ((A Bool)) ((A Bool ((and p p p p p p p p p p p p p p p p p p p p p p p p p p p p p p p p p p p p p p p p p p p p p p p p p p p p p p p p p p p p p p p p p p p p p p p p p p p p p p p p p p p p p p p p p p p p p p p p p p p p p p p p p p p p p p p p p p p p p p p p p p p p p p p p p p p p p p p p p p p p p p p p p p p p p p p p p p p p p p p p p p p p p p p p p p p p p p p p p p p p p p p p p p p p p p p p p p p p p p p p p p p p p p p p p p p p p p p p p p p p p p p p p p p p p p p p p p p p p p p p p p p p p p p p p p p p p p p)))))(check-synth)" "((define-fun f ((p Bool)) Bool (and p p p p p p p p p p p p p p p p p p p p p p p p p p p p p p p p p p p p p p p p p p p p p p p p p p p p p p p p p p p p p p p p p p p p p p p p p p p p p p p p p p p p p p p p p p p p p p p p p p p p p p p p p p p p p p p p p p p p p p p p p p p p p p p p p p p p p p p p p p p p p p p p p p p p p p p p p p p p p p p p p p p p p p p p p p p p p p p p p p p p p p p p p p p p p p p p p p p p p p p p p p p p p p p p p p p p p p p p p p p p p p p p p p p p p p p p p p p p p p p p p p p p p p p p p p p p p p p)))" []
    ∷ row "(set-logic BV)(synth-fun f ((p Bool)) Bool ((A Bool)) ((A Bool ((and p p p p p p p p p p p p p p p p p p p p p p p p p p p p p p p p p p p p p p p p p p p p p p p p p p p p p p p p p p p p p p p p p p p p p p p p p p p p p p p p p p p p p p p p p p p p p p p p p p p p p p p p p p p p p p p p p p p p p p p p p p p p p p p p p p p p p p p p p p p p p p p p p p p p p p p p p p p p p p p p p p p p p p p p p p p p p p p p p p p p p p p p p p p p p p p p p p p p p p p p p p p p p p p p p p p p p p p p p p p p p p p p p p p p p p p p p p p p p p p p p p p p p p p p p p p p p p p p)))))(check-synth)" "" (4 ∷ 282 ∷ 0 ∷ [])
    ∷ []

-- The definitions answer every one of them so.
pub operands_rule_held : map defined operands_rule_texts ≡ map (λ (r : Reading). r.answer) operands_rule_texts
unfolding after all all_in all_numerals answered any_of any_uncarried argument_tokens attributes_shape before bytes_at called_sort chained command_shape command_uncarried constants_past count dead_misfit dead_place differing earlier form_sorts form_yields formed forms_of grammar_place group_left group_right hashed in_order in_script_order inside is_decimal is_known is_named is_not_carried is_one_of is_reserved item item_sort items_of join judged judged_all judged_body judged_extra keyword_form kind_of known_after label_sort last_before least_in levels_at levels_before limit_place listing_misfit literal_kind marked name_place named named_by new_names new_pairs node_word nodes_of nodes_past numeral_kind one_pass operator_at operator_of operator_sort operators pairwise passes place_in raw_terms read_all reserved_words rule_misfit rule_past rules_in rules_of run_end same_bytes same_sorts sides sort_by sort_over sorting_place spelled starts_from symbol_kind symbol_means term_fault term_shapes terms_in tested total_of trees_from unknown_in with_each with_sort word_at word_end word_starts words_in words_of
operands_rule_held = refl

-- The limit on constant width.
abbrev constant_width_texts : List Reading
constant_width_texts =
    row "(set-logic BV)(synth-fun f () Bool ((A Bool)) ((A Bool (true))))(constraint (= (_ bv0 64) (_ bv0 64)))(check-synth)" "((define-fun f () Bool true))" []
    ∷ row "(set-logic BV)(synth-fun f () Bool ((A Bool)) ((A Bool (true))))(constraint (= (_ bv0 65) (_ bv0 64)))(check-synth)" "" (4 ∷ 33 ∷ 0 ∷ [])
    ∷ []

-- The definitions answer every one of them so.
pub constant_width_held : map defined constant_width_texts ≡ map (λ (r : Reading). r.answer) constant_width_texts
unfolding after all all_in all_numerals answered any_of any_uncarried argument_tokens attributes_shape before bytes_at called_sort chained command_shape command_uncarried constants_past count dead_misfit dead_place differing earlier form_sorts form_yields formed forms_of grammar_place group_left group_right hashed in_order in_script_order inside is_decimal is_known is_named is_not_carried is_one_of is_reserved item item_sort items_of join judged judged_all judged_body judged_extra keyword_form kind_of known_after label_sort last_before least_in levels_at levels_before limit_place listing_misfit literal_kind marked name_place named named_by new_names new_pairs node_word nodes_of nodes_past numeral_kind one_pass operator_at operator_of operator_sort operators pairwise passes place_in raw_terms read_all reserved_words rule_misfit rule_past rules_in rules_of run_end same_bytes same_sorts sides sort_by sort_over sorting_place spelled starts_from symbol_kind symbol_means term_fault term_shapes terms_in tested total_of trees_from unknown_in with_each with_sort word_at word_end word_starts words_in words_of
constant_width_held = refl

-- The limit on digits.
abbrev digits_texts : List Reading
digits_texts =
    row "(set-logic BV)(synth-fun f () Bool ((A Bool)) ((A Bool (true))))(constraint (= #x05 (_ bv11111111111111111111 8)))(check-synth)" "" (8 ∷ 31 ∷ 0 ∷ [])
    ∷ row "(set-logic BV)(synth-fun f () Bool ((A Bool)) ((A Bool (true))))(constraint (= #x05 (_ bv111111111111111111111 8)))(check-synth)" "" (4 ∷ 33 ∷ 0 ∷ [])
    ∷ row "(set-logic BV)(synth-fun f () Bool ((A Bool)) ((A Bool (true))))(constraint (= #x05 (_ bv11111111111111111111111111111111111111111111111111111111111111 8)))(check-synth)" "" (4 ∷ 33 ∷ 0 ∷ [])
    ∷ []

-- The definitions answer every one of them so.
pub digits_held : map defined digits_texts ≡ map (λ (r : Reading). r.answer) digits_texts
unfolding after all all_in all_numerals answered any_of any_uncarried argument_tokens attributes_shape before bytes_at called_sort chained command_shape command_uncarried constants_past count dead_misfit dead_place differing earlier form_sorts form_yields formed forms_of grammar_place group_left group_right hashed in_order in_script_order inside is_decimal is_known is_named is_not_carried is_one_of is_reserved item item_sort items_of join judged judged_all judged_body judged_extra keyword_form kind_of known_after label_sort last_before least_in levels_at levels_before limit_place listing_misfit literal_kind marked name_place named named_by new_names new_pairs node_word nodes_of nodes_past numeral_kind one_pass operator_at operator_of operator_sort operators pairwise passes place_in raw_terms read_all reserved_words rule_misfit rule_past rules_in rules_of run_end same_bytes same_sorts sides sort_by sort_over sorting_place spelled starts_from symbol_kind symbol_means term_fault term_shapes terms_in tested total_of trees_from unknown_in with_each with_sort word_at word_end word_starts words_in words_of
digits_held = refl

-- The limit on weight.
abbrev weight_texts : List Reading
weight_texts =
    row "(set-logic BV)(set-feature :weights true)(synth-fun f () Bool ((A Bool)) ((A Bool ((! true :weight 65535)))))(check-synth)" "((define-fun f () Bool true))" []
    ∷ row "(set-logic BV)(set-feature :weights true)(synth-fun f () Bool ((A Bool)) ((A Bool ((! true :weight 65536)))))(check-synth)" "" (4 ∷ 30 ∷ 0 ∷ [])
    ∷ []

-- The definitions answer every one of them so.
pub weight_held : map defined weight_texts ≡ map (λ (r : Reading). r.answer) weight_texts
unfolding after all all_in all_numerals answered any_of any_uncarried argument_tokens attributes_shape before bytes_at called_sort chained command_shape command_uncarried constants_past count dead_misfit dead_place differing earlier form_sorts form_yields formed forms_of grammar_place group_left group_right hashed in_order in_script_order inside is_decimal is_known is_named is_not_carried is_one_of is_reserved item item_sort items_of join judged judged_all judged_body judged_extra keyword_form kind_of known_after label_sort last_before least_in levels_at levels_before limit_place listing_misfit literal_kind marked name_place named named_by new_names new_pairs node_word nodes_of nodes_past numeral_kind one_pass operator_at operator_of operator_sort operators pairwise passes place_in raw_terms read_all reserved_words rule_misfit rule_past rules_in rules_of run_end same_bytes same_sorts sides sort_by sort_over sorting_place spelled starts_from symbol_kind symbol_means term_fault term_shapes terms_in tested total_of trees_from unknown_in with_each with_sort word_at word_end word_starts words_in words_of
weight_held = refl

-- The limit on functions.
abbrev functions_texts : List Reading
functions_texts =
    row "(set-logic BV)(synth-fun f0 () Bool ((A Bool)) ((A Bool (true))))(synth-fun f1 () Bool ((A Bool)) ((A Bool (false true))))(synth-fun f2 () Bool ((A Bool)) ((A Bool (false false true))))(synth-fun f3 () Bool ((A Bool)) ((A Bool (false false false true))))(synth-fun f4 () Bool ((A Bool)) ((A Bool (false false false false true))))(synth-fun f5 () Bool ((A Bool)) ((A Bool (false false false false false true))))(synth-fun f6 () Bool ((A Bool)) ((A Bool (false false false false false false true))))(synth-fun f7 () Bool ((A Bool)) ((A Bool (false false false false false false false true))))(check-synth)" "((define-fun f0 () Bool true)(define-fun f1 () Bool true)(define-fun f2 () Bool true)(define-fun f3 () Bool true)(define-fun f4 () Bool true)(define-fun f5 () Bool true)(define-fun f6 () Bool true)(define-fun f7 () Bool true))" []
    ∷ row "(set-logic BV)(synth-fun f0 () Bool ((A Bool)) ((A Bool (true))))(synth-fun f1 () Bool ((A Bool)) ((A Bool (false true))))(synth-fun f2 () Bool ((A Bool)) ((A Bool (false false true))))(synth-fun f3 () Bool ((A Bool)) ((A Bool (false false false true))))(synth-fun f4 () Bool ((A Bool)) ((A Bool (false false false false true))))(synth-fun f5 () Bool ((A Bool)) ((A Bool (false false false false false true))))(synth-fun f6 () Bool ((A Bool)) ((A Bool (false false false false false false true))))(synth-fun f7 () Bool ((A Bool)) ((A Bool (false false false false false false false true))))(synth-fun f8 () Bool ((A Bool)) ((A Bool (false false false false false false false false true))))(check-synth)" "" (4 ∷ 208 ∷ 0 ∷ [])
    ∷ []

-- The definitions answer every one of them so.
pub functions_held : map defined functions_texts ≡ map (λ (r : Reading). r.answer) functions_texts
unfolding after all all_in all_numerals answered any_of any_uncarried argument_tokens attributes_shape before bytes_at called_sort chained command_shape command_uncarried constants_past count dead_misfit dead_place differing earlier form_sorts form_yields formed forms_of grammar_place group_left group_right hashed in_order in_script_order inside is_decimal is_known is_named is_not_carried is_one_of is_reserved item item_sort items_of join judged judged_all judged_body judged_extra keyword_form kind_of known_after label_sort last_before least_in levels_at levels_before limit_place listing_misfit literal_kind marked name_place named named_by new_names new_pairs node_word nodes_of nodes_past numeral_kind one_pass operator_at operator_of operator_sort operators pairwise passes place_in raw_terms read_all reserved_words rule_misfit rule_past rules_in rules_of run_end same_bytes same_sorts sides sort_by sort_over sorting_place spelled starts_from symbol_kind symbol_means term_fault term_shapes terms_in tested total_of trees_from unknown_in with_each with_sort word_at word_end word_starts words_in words_of
functions_held = refl

-- The limit on arguments.
abbrev arguments_texts : List Reading
arguments_texts =
    row "(set-logic BV)(synth-fun f ((a0 Bool)(a1 Bool)(a2 Bool)(a3 Bool)(a4 Bool)(a5 Bool)(a6 Bool)(a7 Bool)) Bool ((A Bool)) ((A Bool (true))))(check-synth)" "((define-fun f ((a0 Bool)(a1 Bool)(a2 Bool)(a3 Bool)(a4 Bool)(a5 Bool)(a6 Bool)(a7 Bool)) Bool true))" []
    ∷ row "(set-logic BV)(synth-fun f ((a0 Bool)(a1 Bool)(a2 Bool)(a3 Bool)(a4 Bool)(a5 Bool)(a6 Bool)(a7 Bool)(a8 Bool)) Bool ((A Bool)) ((A Bool (true))))(check-synth)" "" (4 ∷ 40 ∷ 0 ∷ [])
    ∷ []

-- The definitions answer every one of them so.
pub arguments_held : map defined arguments_texts ≡ map (λ (r : Reading). r.answer) arguments_texts
unfolding after all all_in all_numerals answered any_of any_uncarried argument_tokens attributes_shape before bytes_at called_sort chained command_shape command_uncarried constants_past count dead_misfit dead_place differing earlier form_sorts form_yields formed forms_of grammar_place group_left group_right hashed in_order in_script_order inside is_decimal is_known is_named is_not_carried is_one_of is_reserved item item_sort items_of join judged judged_all judged_body judged_extra keyword_form kind_of known_after label_sort last_before least_in levels_at levels_before limit_place listing_misfit literal_kind marked name_place named named_by new_names new_pairs node_word nodes_of nodes_past numeral_kind one_pass operator_at operator_of operator_sort operators pairwise passes place_in raw_terms read_all reserved_words rule_misfit rule_past rules_in rules_of run_end same_bytes same_sorts sides sort_by sort_over sorting_place spelled starts_from symbol_kind symbol_means term_fault term_shapes terms_in tested total_of trees_from unknown_in with_each with_sort word_at word_end word_starts words_in words_of
arguments_held = refl

-- The limit on defined arguments.
abbrev defined_arguments_texts : List Reading
defined_arguments_texts =
    row "(set-logic BV)(synth-fun f () Bool ((A Bool)) ((A Bool (true))))(define-fun d ((a0 Bool)(a1 Bool)(a2 Bool)(a3 Bool)(a4 Bool)(a5 Bool)(a6 Bool)(a7 Bool)) Bool true)(check-synth)" "((define-fun f () Bool true))" []
    ∷ row "(set-logic BV)(synth-fun f () Bool ((A Bool)) ((A Bool (true))))(define-fun d ((a0 Bool)(a1 Bool)(a2 Bool)(a3 Bool)(a4 Bool)(a5 Bool)(a6 Bool)(a7 Bool)(a8 Bool)) Bool true)(check-synth)" "" (4 ∷ 62 ∷ 0 ∷ [])
    ∷ []

-- The definitions answer every one of them so.
pub defined_arguments_held : map defined defined_arguments_texts ≡ map (λ (r : Reading). r.answer) defined_arguments_texts
unfolding after all all_in all_numerals answered any_of any_uncarried argument_tokens attributes_shape before bytes_at called_sort chained command_shape command_uncarried constants_past count dead_misfit dead_place differing earlier form_sorts form_yields formed forms_of grammar_place group_left group_right hashed in_order in_script_order inside is_decimal is_known is_named is_not_carried is_one_of is_reserved item item_sort items_of join judged judged_all judged_body judged_extra keyword_form kind_of known_after label_sort last_before least_in levels_at levels_before limit_place listing_misfit literal_kind marked name_place named named_by new_names new_pairs node_word nodes_of nodes_past numeral_kind one_pass operator_at operator_of operator_sort operators pairwise passes place_in raw_terms read_all reserved_words rule_misfit rule_past rules_in rules_of run_end same_bytes same_sorts sides sort_by sort_over sorting_place spelled starts_from symbol_kind symbol_means term_fault term_shapes terms_in tested total_of trees_from unknown_in with_each with_sort word_at word_end word_starts words_in words_of
defined_arguments_held = refl

-- The limit on defined.
abbrev defined_texts : List Reading
defined_texts =
    row "(set-logic BV)(define-fun d0 () Bool true)(define-fun d1 () Bool d0)(define-fun d2 () Bool d1)(define-fun d3 () Bool d2)(define-fun d4 () Bool d3)(define-fun d5 () Bool d4)(define-fun d6 () Bool d5)(define-fun d7 () Bool d6)(define-fun d8 () Bool d7)(define-fun d9 () Bool d8)(define-fun d10 () Bool d9)(define-fun d11 () Bool d10)(define-fun d12 () Bool d11)(define-fun d13 () Bool d12)(define-fun d14 () Bool d13)(define-fun d15 () Bool d14)(define-fun d16 () Bool d15)(define-fun d17 () Bool d16)(define-fun d18 () Bool d17)(define-fun d19 () Bool d18)(define-fun d20 () Bool d19)(define-fun d21 () Bool d20)(define-fun d22 () Bool d21)(define-fun d23 () Bool d22)(define-fun d24 () Bool d23)(define-fun d25 () Bool d24)(define-fun d26 () Bool d25)(define-fun d27 () Bool d26)(define-fun d28 () Bool d27)(define-fun d29 () Bool d28)(define-fun d30 () Bool d29)(define-fun d31 () Bool d30)(synth-fun f () Bool ((A Bool)) ((A Bool (true))))(constraint d31)(check-synth)" "((define-fun f () Bool true))" []
    ∷ row "(set-logic BV)(define-fun d0 () Bool true)(define-fun d1 () Bool d0)(define-fun d2 () Bool d1)(define-fun d3 () Bool d2)(define-fun d4 () Bool d3)(define-fun d5 () Bool d4)(define-fun d6 () Bool d5)(define-fun d7 () Bool d6)(define-fun d8 () Bool d7)(define-fun d9 () Bool d8)(define-fun d10 () Bool d9)(define-fun d11 () Bool d10)(define-fun d12 () Bool d11)(define-fun d13 () Bool d12)(define-fun d14 () Bool d13)(define-fun d15 () Bool d14)(define-fun d16 () Bool d15)(define-fun d17 () Bool d16)(define-fun d18 () Bool d17)(define-fun d19 () Bool d18)(define-fun d20 () Bool d19)(define-fun d21 () Bool d20)(define-fun d22 () Bool d21)(define-fun d23 () Bool d22)(define-fun d24 () Bool d23)(define-fun d25 () Bool d24)(define-fun d26 () Bool d25)(define-fun d27 () Bool d26)(define-fun d28 () Bool d27)(define-fun d29 () Bool d28)(define-fun d30 () Bool d29)(define-fun d31 () Bool d30)(define-fun d32 () Bool d31)(synth-fun f () Bool ((A Bool)) ((A Bool (true))))(constraint d32)(check-synth)" "" (4 ∷ 260 ∷ 0 ∷ [])
    ∷ []

-- The definitions answer every one of them so.
pub defined_held : map defined defined_texts ≡ map (λ (r : Reading). r.answer) defined_texts
unfolding after all all_in all_numerals answered any_of any_uncarried argument_tokens attributes_shape before bytes_at called_sort chained command_shape command_uncarried constants_past count dead_misfit dead_place differing earlier form_sorts form_yields formed forms_of grammar_place group_left group_right hashed in_order in_script_order inside is_decimal is_known is_named is_not_carried is_one_of is_reserved item item_sort items_of join judged judged_all judged_body judged_extra keyword_form kind_of known_after label_sort last_before least_in levels_at levels_before limit_place listing_misfit literal_kind marked name_place named named_by new_names new_pairs node_word nodes_of nodes_past numeral_kind one_pass operator_at operator_of operator_sort operators pairwise passes place_in raw_terms read_all reserved_words rule_misfit rule_past rules_in rules_of run_end same_bytes same_sorts sides sort_by sort_over sorting_place spelled starts_from symbol_kind symbol_means term_fault term_shapes terms_in tested total_of trees_from unknown_in with_each with_sort word_at word_end word_starts words_in words_of
defined_held = refl

-- The limit on variables.
abbrev variables_texts : List Reading
variables_texts =
    row "(set-logic BV)(synth-fun f () Bool ((A Bool)) ((A Bool (true))))(declare-var v0 Bool)(declare-var v1 Bool)(declare-var v2 Bool)(declare-var v3 Bool)(declare-var v4 Bool)(declare-var v5 Bool)(declare-var v6 Bool)(declare-var v7 Bool)(declare-var v8 Bool)(declare-var v9 Bool)(declare-var v10 Bool)(declare-var v11 Bool)(declare-var v12 Bool)(declare-var v13 Bool)(declare-var v14 Bool)(declare-var v15 Bool)(constraint (= v0 v15))(check-synth)" "((define-fun f () Bool true))" []
    ∷ row "(set-logic BV)(synth-fun f () Bool ((A Bool)) ((A Bool (true))))(declare-var v0 Bool)(declare-var v1 Bool)(declare-var v2 Bool)(declare-var v3 Bool)(declare-var v4 Bool)(declare-var v5 Bool)(declare-var v6 Bool)(declare-var v7 Bool)(declare-var v8 Bool)(declare-var v9 Bool)(declare-var v10 Bool)(declare-var v11 Bool)(declare-var v12 Bool)(declare-var v13 Bool)(declare-var v14 Bool)(declare-var v15 Bool)(declare-var v16 Bool)(constraint (= v0 v16))(check-synth)" "" (4 ∷ 106 ∷ 0 ∷ [])
    ∷ []

-- The definitions answer every one of them so.
pub variables_held : map defined variables_texts ≡ map (λ (r : Reading). r.answer) variables_texts
unfolding after all all_in all_numerals answered any_of any_uncarried argument_tokens attributes_shape before bytes_at called_sort chained command_shape command_uncarried constants_past count dead_misfit dead_place differing earlier form_sorts form_yields formed forms_of grammar_place group_left group_right hashed in_order in_script_order inside is_decimal is_known is_named is_not_carried is_one_of is_reserved item item_sort items_of join judged judged_all judged_body judged_extra keyword_form kind_of known_after label_sort last_before least_in levels_at levels_before limit_place listing_misfit literal_kind marked name_place named named_by new_names new_pairs node_word nodes_of nodes_past numeral_kind one_pass operator_at operator_of operator_sort operators pairwise passes place_in raw_terms read_all reserved_words rule_misfit rule_past rules_in rules_of run_end same_bytes same_sorts sides sort_by sort_over sorting_place spelled starts_from symbol_kind symbol_means term_fault term_shapes terms_in tested total_of trees_from unknown_in with_each with_sort word_at word_end word_starts words_in words_of
variables_held = refl

-- The limit on constraints.
abbrev constraints_texts : List Reading
constraints_texts =
    row "(set-logic BV)(synth-fun f () Bool ((A Bool)) ((A Bool (true))))(constraint true)(constraint true)(constraint true)(constraint true)(constraint true)(constraint true)(constraint true)(constraint true)(constraint true)(constraint true)(constraint true)(constraint true)(constraint true)(constraint true)(constraint true)(constraint true)(constraint true)(constraint true)(constraint true)(constraint true)(constraint true)(constraint true)(constraint true)(constraint true)(constraint true)(constraint true)(constraint true)(constraint true)(constraint true)(constraint true)(constraint true)(constraint true)(constraint true)(constraint true)(constraint true)(constraint true)(constraint true)(constraint true)(constraint true)(constraint true)(constraint true)(constraint true)(constraint true)(constraint true)(constraint true)(constraint true)(constraint true)(constraint true)(constraint true)(constraint true)(constraint true)(constraint true)(constraint true)(constraint true)(constraint true)(constraint true)(constraint true)(constraint true)(constraint true)(constraint true)(constraint true)(constraint true)(constraint true)(constraint true)(check-synth)" "((define-fun f () Bool true))" []
    ∷ row "(set-logic BV)(synth-fun f () Bool ((A Bool)) ((A Bool (true))))(constraint true)(constraint true)(constraint true)(constraint true)(constraint true)(constraint true)(constraint true)(constraint true)(constraint true)(constraint true)(constraint true)(constraint true)(constraint true)(constraint true)(constraint true)(constraint true)(constraint true)(constraint true)(constraint true)(constraint true)(constraint true)(constraint true)(constraint true)(constraint true)(constraint true)(constraint true)(constraint true)(constraint true)(constraint true)(constraint true)(constraint true)(constraint true)(constraint true)(constraint true)(constraint true)(constraint true)(constraint true)(constraint true)(constraint true)(constraint true)(constraint true)(constraint true)(constraint true)(constraint true)(constraint true)(constraint true)(constraint true)(constraint true)(constraint true)(constraint true)(constraint true)(constraint true)(constraint true)(constraint true)(constraint true)(constraint true)(constraint true)(constraint true)(constraint true)(constraint true)(constraint true)(constraint true)(constraint true)(constraint true)(constraint true)(check-synth)" "" (4 ∷ 282 ∷ 0 ∷ [])
    ∷ []

-- The definitions answer every one of them so.
pub constraints_held : map defined constraints_texts ≡ map (λ (r : Reading). r.answer) constraints_texts
unfolding after all all_in all_numerals answered any_of any_uncarried argument_tokens attributes_shape before bytes_at called_sort chained command_shape command_uncarried constants_past count dead_misfit dead_place differing earlier form_sorts form_yields formed forms_of grammar_place group_left group_right hashed in_order in_script_order inside is_decimal is_known is_named is_not_carried is_one_of is_reserved item item_sort items_of join judged judged_all judged_body judged_extra keyword_form kind_of known_after label_sort last_before least_in levels_at levels_before limit_place listing_misfit literal_kind marked name_place named named_by new_names new_pairs node_word nodes_of nodes_past numeral_kind one_pass operator_at operator_of operator_sort operators pairwise passes place_in raw_terms read_all reserved_words rule_misfit rule_past rules_in rules_of run_end same_bytes same_sorts sides sort_by sort_over sorting_place spelled starts_from symbol_kind symbol_means term_fault term_shapes terms_in tested total_of trees_from unknown_in with_each with_sort word_at word_end word_starts words_in words_of
constraints_held = refl

-- The limit on assumptions.
abbrev assumptions_texts : List Reading
assumptions_texts =
    row "(set-logic BV)(synth-fun f () Bool ((A Bool)) ((A Bool (true))))(assume true)(assume true)(assume true)(assume true)(assume true)(assume true)(assume true)(assume true)(assume true)(assume true)(assume true)(assume true)(assume true)(assume true)(assume true)(assume true)(assume true)(assume true)(assume true)(assume true)(assume true)(assume true)(assume true)(assume true)(assume true)(assume true)(assume true)(assume true)(assume true)(assume true)(assume true)(assume true)(check-synth)" "((define-fun f () Bool true))" []
    ∷ row "(set-logic BV)(synth-fun f () Bool ((A Bool)) ((A Bool (true))))(assume true)(assume true)(assume true)(assume true)(assume true)(assume true)(assume true)(assume true)(assume true)(assume true)(assume true)(assume true)(assume true)(assume true)(assume true)(assume true)(assume true)(assume true)(assume true)(assume true)(assume true)(assume true)(assume true)(assume true)(assume true)(assume true)(assume true)(assume true)(assume true)(assume true)(assume true)(assume true)(assume true)(check-synth)" "" (4 ∷ 154 ∷ 0 ∷ [])
    ∷ []

-- The definitions answer every one of them so.
pub assumptions_held : map defined assumptions_texts ≡ map (λ (r : Reading). r.answer) assumptions_texts
unfolding after all all_in all_numerals answered any_of any_uncarried argument_tokens attributes_shape before bytes_at called_sort chained command_shape command_uncarried constants_past count dead_misfit dead_place differing earlier form_sorts form_yields formed forms_of grammar_place group_left group_right hashed in_order in_script_order inside is_decimal is_known is_named is_not_carried is_one_of is_reserved item item_sort items_of join judged judged_all judged_body judged_extra keyword_form kind_of known_after label_sort last_before least_in levels_at levels_before limit_place listing_misfit literal_kind marked name_place named named_by new_names new_pairs node_word nodes_of nodes_past numeral_kind one_pass operator_at operator_of operator_sort operators pairwise passes place_in raw_terms read_all reserved_words rule_misfit rule_past rules_in rules_of run_end same_bytes same_sorts sides sort_by sort_over sorting_place spelled starts_from symbol_kind symbol_means term_fault term_shapes terms_in tested total_of trees_from unknown_in with_each with_sort word_at word_end word_starts words_in words_of
assumptions_held = refl

-- The limit on non terminals.
abbrev non_terminals_texts : List Reading
non_terminals_texts =
    row "(set-logic BV)(synth-fun f () Bool ((A0 Bool)(A1 Bool)(A2 Bool)(A3 Bool)(A4 Bool)(A5 Bool)(A6 Bool)(A7 Bool)(A8 Bool)(A9 Bool)(A10 Bool)(A11 Bool)(A12 Bool)(A13 Bool)(A14 Bool)(A15 Bool)) ((A0 Bool (true))(A1 Bool (true))(A2 Bool (true))(A3 Bool (true))(A4 Bool (true))(A5 Bool (true))(A6 Bool (true))(A7 Bool (true))(A8 Bool (true))(A9 Bool (true))(A10 Bool (true))(A11 Bool (true))(A12 Bool (true))(A13 Bool (true))(A14 Bool (true))(A15 Bool (true))))(check-synth)" "((define-fun f () Bool true))" []
    ∷ row "(set-logic BV)(synth-fun f () Bool ((A0 Bool)(A1 Bool)(A2 Bool)(A3 Bool)(A4 Bool)(A5 Bool)(A6 Bool)(A7 Bool)(A8 Bool)(A9 Bool)(A10 Bool)(A11 Bool)(A12 Bool)(A13 Bool)(A14 Bool)(A15 Bool)(A16 Bool)) ((A0 Bool (true))(A1 Bool (true))(A2 Bool (true))(A3 Bool (true))(A4 Bool (true))(A5 Bool (true))(A6 Bool (true))(A7 Bool (true))(A8 Bool (true))(A9 Bool (true))(A10 Bool (true))(A11 Bool (true))(A12 Bool (true))(A13 Bool (true))(A14 Bool (true))(A15 Bool (true))(A16 Bool (true))))(check-synth)" "" (4 ∷ 75 ∷ 0 ∷ [])
    ∷ []

-- The definitions answer every one of them so.
pub non_terminals_held : map defined non_terminals_texts ≡ map (λ (r : Reading). r.answer) non_terminals_texts
unfolding after all all_in all_numerals answered any_of any_uncarried argument_tokens attributes_shape before bytes_at called_sort chained command_shape command_uncarried constants_past count dead_misfit dead_place differing earlier form_sorts form_yields formed forms_of grammar_place group_left group_right hashed in_order in_script_order inside is_decimal is_known is_named is_not_carried is_one_of is_reserved item item_sort items_of join judged judged_all judged_body judged_extra keyword_form kind_of known_after label_sort last_before least_in levels_at levels_before limit_place listing_misfit literal_kind marked name_place named named_by new_names new_pairs node_word nodes_of nodes_past numeral_kind one_pass operator_at operator_of operator_sort operators pairwise passes place_in raw_terms read_all reserved_words rule_misfit rule_past rules_in rules_of run_end same_bytes same_sorts sides sort_by sort_over sorting_place spelled starts_from symbol_kind symbol_means term_fault term_shapes terms_in tested total_of trees_from unknown_in with_each with_sort word_at word_end word_starts words_in words_of
non_terminals_held = refl

-- The limit on rules.
abbrev rules_texts : List Reading
rules_texts =
    row "(set-logic BV)(synth-fun f () Bool ((A Bool)) ((A Bool (false false false false false false false false false false false false false false false false false false false false false false false false false false false false false false false false false false false false false false false false false false false false false false false false false false false false false false false false false false false false false false false false false false false false false false false false false false false false false false false false false false false false false false false false false false false false false false false false false false false false false false false false false false false false false false false false false false false false false false false false false false false false false false false true))))(check-synth)" "((define-fun f () Bool true))" []
    ∷ row "(set-logic BV)(synth-fun f () Bool ((A Bool)) ((A Bool (false false false false false false false false false false false false false false false false false false false false false false false false false false false false false false false false false false false false false false false false false false false false false false false false false false false false false false false false false false false false false false false false false false false false false false false false false false false false false false false false false false false false false false false false false false false false false false false false false false false false false false false false false false false false false false false false false false false false false false false false false false false false false false false true false))))(check-synth)" "" (4 ∷ 149 ∷ 0 ∷ [])
    ∷ []

-- The definitions answer every one of them so.
pub rules_held : map defined rules_texts ≡ map (λ (r : Reading). r.answer) rules_texts
unfolding after all all_in all_numerals answered any_of any_uncarried argument_tokens attributes_shape before bytes_at called_sort chained command_shape command_uncarried constants_past count dead_misfit dead_place differing earlier form_sorts form_yields formed forms_of grammar_place group_left group_right hashed in_order in_script_order inside is_decimal is_known is_named is_not_carried is_one_of is_reserved item item_sort items_of join judged judged_all judged_body judged_extra keyword_form kind_of known_after label_sort last_before least_in levels_at levels_before limit_place listing_misfit literal_kind marked name_place named named_by new_names new_pairs node_word nodes_of nodes_past numeral_kind one_pass operator_at operator_of operator_sort operators pairwise passes place_in raw_terms read_all reserved_words rule_misfit rule_past rules_in rules_of run_end same_bytes same_sorts sides sort_by sort_over sorting_place spelled starts_from symbol_kind symbol_means term_fault term_shapes terms_in tested total_of trees_from unknown_in with_each with_sort word_at word_end word_starts words_in words_of
rules_held = refl

-- The limit on nodes body.
abbrev nodes_body_texts : List Reading
nodes_body_texts =
    row "(set-logic BV)(synth-fun f () Bool ((A Bool)) ((A Bool (true))))(define-fun d () Bool (or (not true) (or (or (or (or (or (or true (or true true)) (or (or true true) (or true true))) (or (or (or true true) (or true true)) (or (or true true) (or true true)))) (or (or (or (or true true) (or true true)) (or (or true true) (or true true))) (or (or (or true true) (or true true)) (or (or true true) (or true true))))) (or (or (or (or (or true true) (or true true)) (or (or true true) (or true true))) (or (or (or true true) (or true true)) (or (or true true) (or true true)))) (or (or (or (or true true) (or true true)) (or (or true true) (or true true))) (or (or (or true true) (or true true)) (or (or true true) (or true true)))))) (or (or (or (or (or (or true true) (or true true)) (or (or true true) (or true true))) (or (or (or true true) (or true true)) (or (or true true) (or true true)))) (or (or (or (or true true) (or true true)) (or (or true true) (or true true))) (or (or (or true true) (or true true)) (or (or true true) (or true true))))) (or (or (or (or (or true true) (or true true)) (or (or true true) (or true true))) (or (or (or true true) (or true true)) (or (or true true) (or true true)))) (or (or (or (or true true) (or true true)) (or (or true true) (or true true))) (or (or (or true true) (or true true)) (or (or true true) (or true true)))))))))(constraint d)(check-synth)" "((define-fun f () Bool true))" []
    ∷ row "(set-logic BV)(synth-fun f () Bool ((A Bool)) ((A Bool (true))))(define-fun d () Bool (or (or (or (or (or (or (or true true) (or true true)) (or (or true true) (or true true))) (or (or (or true true) (or true true)) (or (or true true) (or true true)))) (or (or (or (or true true) (or true true)) (or (or true true) (or true true))) (or (or (or true true) (or true true)) (or (or true true) (or true true))))) (or (or (or (or (or true true) (or true true)) (or (or true true) (or true true))) (or (or (or true true) (or true true)) (or (or true true) (or true true)))) (or (or (or (or true true) (or true true)) (or (or true true) (or true true))) (or (or (or true true) (or true true)) (or (or true true) (or true true)))))) (or (or (or (or (or (or true true) (or true true)) (or (or true true) (or true true))) (or (or (or true true) (or true true)) (or (or true true) (or true true)))) (or (or (or (or true true) (or true true)) (or (or true true) (or true true))) (or (or (or true true) (or true true)) (or (or true true) (or true true))))) (or (or (or (or (or true true) (or true true)) (or (or true true) (or true true))) (or (or (or true true) (or true true)) (or (or true true) (or true true)))) (or (or (or (or true true) (or true true)) (or (or true true) (or true true))) (or (or (or true true) (or true true)) (or (or true true) (or true (or true true)))))))))(constraint d)(check-synth)" "" (4 ∷ 536 ∷ 0 ∷ [])
    ∷ []

-- The definitions answer every one of them so.
pub nodes_body_held : map defined nodes_body_texts ≡ map (λ (r : Reading). r.answer) nodes_body_texts
unfolding after all all_in all_numerals answered any_of any_uncarried argument_tokens attributes_shape before bytes_at called_sort chained command_shape command_uncarried constants_past count dead_misfit dead_place differing earlier form_sorts form_yields formed forms_of grammar_place group_left group_right hashed in_order in_script_order inside is_decimal is_known is_named is_not_carried is_one_of is_reserved item item_sort items_of join judged judged_all judged_body judged_extra keyword_form kind_of known_after label_sort last_before least_in levels_at levels_before limit_place listing_misfit literal_kind marked name_place named named_by new_names new_pairs node_word nodes_of nodes_past numeral_kind one_pass operator_at operator_of operator_sort operators pairwise passes place_in raw_terms read_all reserved_words rule_misfit rule_past rules_in rules_of run_end same_bytes same_sorts sides sort_by sort_over sorting_place spelled starts_from symbol_kind symbol_means term_fault term_shapes terms_in tested total_of trees_from unknown_in with_each with_sort word_at word_end word_starts words_in words_of
nodes_body_held = refl

-- The limit on nodes constraint.
abbrev nodes_constraint_texts : List Reading
nodes_constraint_texts =
    row "(set-logic BV)(synth-fun f () Bool ((A Bool)) ((A Bool (true))))(constraint (or (not true) (or (or (or (or (or (or true (or true true)) (or (or true true) (or true true))) (or (or (or true true) (or true true)) (or (or true true) (or true true)))) (or (or (or (or true true) (or true true)) (or (or true true) (or true true))) (or (or (or true true) (or true true)) (or (or true true) (or true true))))) (or (or (or (or (or true true) (or true true)) (or (or true true) (or true true))) (or (or (or true true) (or true true)) (or (or true true) (or true true)))) (or (or (or (or true true) (or true true)) (or (or true true) (or true true))) (or (or (or true true) (or true true)) (or (or true true) (or true true)))))) (or (or (or (or (or (or true true) (or true true)) (or (or true true) (or true true))) (or (or (or true true) (or true true)) (or (or true true) (or true true)))) (or (or (or (or true true) (or true true)) (or (or true true) (or true true))) (or (or (or true true) (or true true)) (or (or true true) (or true true))))) (or (or (or (or (or true true) (or true true)) (or (or true true) (or true true))) (or (or (or true true) (or true true)) (or (or true true) (or true true)))) (or (or (or (or true true) (or true true)) (or (or true true) (or true true))) (or (or (or true true) (or true true)) (or (or true true) (or true true)))))))))(check-synth)" "((define-fun f () Bool true))" []
    ∷ row "(set-logic BV)(synth-fun f () Bool ((A Bool)) ((A Bool (true))))(constraint (or (or (or (or (or (or (or true true) (or true true)) (or (or true true) (or true true))) (or (or (or true true) (or true true)) (or (or true true) (or true true)))) (or (or (or (or true true) (or true true)) (or (or true true) (or true true))) (or (or (or true true) (or true true)) (or (or true true) (or true true))))) (or (or (or (or (or true true) (or true true)) (or (or true true) (or true true))) (or (or (or true true) (or true true)) (or (or true true) (or true true)))) (or (or (or (or true true) (or true true)) (or (or true true) (or true true))) (or (or (or true true) (or true true)) (or (or true true) (or true true)))))) (or (or (or (or (or (or true true) (or true true)) (or (or true true) (or true true))) (or (or (or true true) (or true true)) (or (or true true) (or true true)))) (or (or (or (or true true) (or true true)) (or (or true true) (or true true))) (or (or (or true true) (or true true)) (or (or true true) (or true true))))) (or (or (or (or (or true true) (or true true)) (or (or true true) (or true true))) (or (or (or true true) (or true true)) (or (or true true) (or true true)))) (or (or (or (or true true) (or true true)) (or (or true true) (or true true))) (or (or (or true true) (or true true)) (or (or true true) (or true (or true true)))))))))(check-synth)" "" (4 ∷ 532 ∷ 0 ∷ [])
    ∷ []

-- The definitions answer every one of them so.
pub nodes_constraint_held : map defined nodes_constraint_texts ≡ map (λ (r : Reading). r.answer) nodes_constraint_texts
unfolding after all all_in all_numerals answered any_of any_uncarried argument_tokens attributes_shape before bytes_at called_sort chained command_shape command_uncarried constants_past count dead_misfit dead_place differing earlier form_sorts form_yields formed forms_of grammar_place group_left group_right hashed in_order in_script_order inside is_decimal is_known is_named is_not_carried is_one_of is_reserved item item_sort items_of join judged judged_all judged_body judged_extra keyword_form kind_of known_after label_sort last_before least_in levels_at levels_before limit_place listing_misfit literal_kind marked name_place named named_by new_names new_pairs node_word nodes_of nodes_past numeral_kind one_pass operator_at operator_of operator_sort operators pairwise passes place_in raw_terms read_all reserved_words rule_misfit rule_past rules_in rules_of run_end same_bytes same_sorts sides sort_by sort_over sorting_place spelled starts_from symbol_kind symbol_means term_fault term_shapes terms_in tested total_of trees_from unknown_in with_each with_sort word_at word_end word_starts words_in words_of
nodes_constraint_held = refl

-- The limit on nodes rule.
abbrev nodes_rule_texts : List Reading
nodes_rule_texts =
    row "(set-logic BV)(synth-fun f () Bool ((A Bool)) ((A Bool ((or (not true) (or (or (or (or (or (or true (or true true)) (or (or true true) (or true true))) (or (or (or true true) (or true true)) (or (or true true) (or true true)))) (or (or (or (or true true) (or true true)) (or (or true true) (or true true))) (or (or (or true true) (or true true)) (or (or true true) (or true true))))) (or (or (or (or (or true true) (or true true)) (or (or true true) (or true true))) (or (or (or true true) (or true true)) (or (or true true) (or true true)))) (or (or (or (or true true) (or true true)) (or (or true true) (or true true))) (or (or (or true true) (or true true)) (or (or true true) (or true true)))))) (or (or (or (or (or (or true true) (or true true)) (or (or true true) (or true true))) (or (or (or true true) (or true true)) (or (or true true) (or true true)))) (or (or (or (or true true) (or true true)) (or (or true true) (or true true))) (or (or (or true true) (or true true)) (or (or true true) (or true true))))) (or (or (or (or (or true true) (or true true)) (or (or true true) (or true true))) (or (or (or true true) (or true true)) (or (or true true) (or true true)))) (or (or (or (or true true) (or true true)) (or (or true true) (or true true))) (or (or (or true true) (or true true)) (or (or true true) (or true true))))))))))))(check-synth)" "((define-fun f () Bool (or (not true) (or (or (or (or (or (or true (or true true)) (or (or true true) (or true true))) (or (or (or true true) (or true true)) (or (or true true) (or true true)))) (or (or (or (or true true) (or true true)) (or (or true true) (or true true))) (or (or (or true true) (or true true)) (or (or true true) (or true true))))) (or (or (or (or (or true true) (or true true)) (or (or true true) (or true true))) (or (or (or true true) (or true true)) (or (or true true) (or true true)))) (or (or (or (or true true) (or true true)) (or (or true true) (or true true))) (or (or (or true true) (or true true)) (or (or true true) (or true true)))))) (or (or (or (or (or (or true true) (or true true)) (or (or true true) (or true true))) (or (or (or true true) (or true true)) (or (or true true) (or true true)))) (or (or (or (or true true) (or true true)) (or (or true true) (or true true))) (or (or (or true true) (or true true)) (or (or true true) (or true true))))) (or (or (or (or (or true true) (or true true)) (or (or true true) (or true true))) (or (or (or true true) (or true true)) (or (or true true) (or true true)))) (or (or (or (or true true) (or true true)) (or (or true true) (or true true))) (or (or (or true true) (or true true)) (or (or true true) (or true true))))))))))" []
    ∷ row "(set-logic BV)(synth-fun f () Bool ((A Bool)) ((A Bool ((or (or (or (or (or (or (or true true) (or true true)) (or (or true true) (or true true))) (or (or (or true true) (or true true)) (or (or true true) (or true true)))) (or (or (or (or true true) (or true true)) (or (or true true) (or true true))) (or (or (or true true) (or true true)) (or (or true true) (or true true))))) (or (or (or (or (or true true) (or true true)) (or (or true true) (or true true))) (or (or (or true true) (or true true)) (or (or true true) (or true true)))) (or (or (or (or true true) (or true true)) (or (or true true) (or true true))) (or (or (or true true) (or true true)) (or (or true true) (or true true)))))) (or (or (or (or (or (or true true) (or true true)) (or (or true true) (or true true))) (or (or (or true true) (or true true)) (or (or true true) (or true true)))) (or (or (or (or true true) (or true true)) (or (or true true) (or true true))) (or (or (or true true) (or true true)) (or (or true true) (or true true))))) (or (or (or (or (or true true) (or true true)) (or (or true true) (or true true))) (or (or (or true true) (or true true)) (or (or true true) (or true true)))) (or (or (or (or true true) (or true true)) (or (or true true) (or true true))) (or (or (or true true) (or true true)) (or (or true true) (or true (or true true))))))))))))(check-synth)" "" (4 ∷ 525 ∷ 0 ∷ [])
    ∷ []

-- The definitions answer every one of them so.
pub nodes_rule_held : map defined nodes_rule_texts ≡ map (λ (r : Reading). r.answer) nodes_rule_texts
unfolding after all all_in all_numerals answered any_of any_uncarried argument_tokens attributes_shape before bytes_at called_sort chained command_shape command_uncarried constants_past count dead_misfit dead_place differing earlier form_sorts form_yields formed forms_of grammar_place group_left group_right hashed in_order in_script_order inside is_decimal is_known is_named is_not_carried is_one_of is_reserved item item_sort items_of join judged judged_all judged_body judged_extra keyword_form kind_of known_after label_sort last_before least_in levels_at levels_before limit_place listing_misfit literal_kind marked name_place named named_by new_names new_pairs node_word nodes_of nodes_past numeral_kind one_pass operator_at operator_of operator_sort operators pairwise passes place_in raw_terms read_all reserved_words rule_misfit rule_past rules_in rules_of run_end same_bytes same_sorts sides sort_by sort_over sorting_place spelled starts_from symbol_kind symbol_means term_fault term_shapes terms_in tested total_of trees_from unknown_in with_each with_sort word_at word_end word_starts words_in words_of
nodes_rule_held = refl

-- The limit on nodes response.
abbrev nodes_response_texts : List Reading
nodes_response_texts =
    row "(set-logic BV)(synth-fun f () Bool ((A Bool)) ((A Bool (true (not A) (or A A)))))(check-synth)" "((define-fun f () Bool (or (not true) (or (or (or (or (or (or true (or true true)) (or (or true true) (or true true))) (or (or (or true true) (or true true)) (or (or true true) (or true true)))) (or (or (or (or true true) (or true true)) (or (or true true) (or true true))) (or (or (or true true) (or true true)) (or (or true true) (or true true))))) (or (or (or (or (or true true) (or true true)) (or (or true true) (or true true))) (or (or (or true true) (or true true)) (or (or true true) (or true true)))) (or (or (or (or true true) (or true true)) (or (or true true) (or true true))) (or (or (or true true) (or true true)) (or (or true true) (or true true)))))) (or (or (or (or (or (or true true) (or true true)) (or (or true true) (or true true))) (or (or (or true true) (or true true)) (or (or true true) (or true true)))) (or (or (or (or true true) (or true true)) (or (or true true) (or true true))) (or (or (or true true) (or true true)) (or (or true true) (or true true))))) (or (or (or (or (or true true) (or true true)) (or (or true true) (or true true))) (or (or (or true true) (or true true)) (or (or true true) (or true true)))) (or (or (or (or true true) (or true true)) (or (or true true) (or true true))) (or (or (or true true) (or true true)) (or (or true true) (or true true))))))))))" []
    ∷ row "(set-logic BV)(synth-fun f () Bool ((A Bool)) ((A Bool (true (not A) (or A A)))))(check-synth)" "((define-fun f () Bool (or (or (or (or (or (or (or true true) (or true true)) (or (or true true) (or true true))) (or (or (or true true) (or true true)) (or (or true true) (or true true)))) (or (or (or (or true true) (or true true)) (or (or true true) (or true true))) (or (or (or true true) (or true true)) (or (or true true) (or true true))))) (or (or (or (or (or true true) (or true true)) (or (or true true) (or true true))) (or (or (or true true) (or true true)) (or (or true true) (or true true)))) (or (or (or (or true true) (or true true)) (or (or true true) (or true true))) (or (or (or true true) (or true true)) (or (or true true) (or true true)))))) (or (or (or (or (or (or true true) (or true true)) (or (or true true) (or true true))) (or (or (or true true) (or true true)) (or (or true true) (or true true)))) (or (or (or (or true true) (or true true)) (or (or true true) (or true true))) (or (or (or true true) (or true true)) (or (or true true) (or true true))))) (or (or (or (or (or true true) (or true true)) (or (or true true) (or true true))) (or (or (or true true) (or true true)) (or (or true true) (or true true)))) (or (or (or (or true true) (or true true)) (or (or true true) (or true true))) (or (or (or true true) (or true true)) (or (or true true) (or true (or true true))))))))))" (4 ∷ 511 ∷ [])
    ∷ []

-- The definitions answer every one of them so.
pub nodes_response_held : map defined nodes_response_texts ≡ map (λ (r : Reading). r.answer) nodes_response_texts
unfolding after all all_in all_numerals answered any_of any_uncarried argument_tokens attributes_shape before bytes_at called_sort chained command_shape command_uncarried constants_past count dead_misfit dead_place differing earlier form_sorts form_yields formed forms_of grammar_place group_left group_right hashed in_order in_script_order inside is_decimal is_known is_named is_not_carried is_one_of is_reserved item item_sort items_of join judged judged_all judged_body judged_extra keyword_form kind_of known_after label_sort last_before least_in levels_at levels_before limit_place listing_misfit literal_kind marked name_place named named_by new_names new_pairs node_word nodes_of nodes_past numeral_kind one_pass operator_at operator_of operator_sort operators pairwise passes place_in raw_terms read_all reserved_words rule_misfit rule_past rules_in rules_of run_end same_bytes same_sorts sides sort_by sort_over sorting_place spelled starts_from symbol_kind symbol_means term_fault term_shapes terms_in tested total_of trees_from unknown_in with_each with_sort word_at word_end word_starts words_in words_of
nodes_response_held = refl
