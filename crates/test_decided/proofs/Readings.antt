-- Decided readings of document 01 and of the requests, computed from the definitions: one table under one statement. A place is a word.
use Prim.Native.Nat.{ℕ}
use Prim.Native.String.{String}
use mathlib.Core.List.{List, [], ◌∷◌, map}
use mathlib.Core.Path.{◌≡◌, refl}
use lib.ListN.{length}
use Rattle.forest.specs.Lists.{spelling}
use Rattle.derivation.specs.Least.{total_of}
use Rattle.derivation.specs.Productive.{form_yields, one_pass, passes}
use Rattle.derivation.specs.Sorts.{form_sorts, item_sort}
use Rattle.forest.specs.Forest.{count, join, nodes_of}
use Rattle.forest.specs.Limits.{allowed}
use Rattle.forest.specs.Lists.{same_bytes}
use Rattle.forest.specs.Search.{place_in}
use Rattle.grammars.specs.Grammars.{dead_place}
use Rattle.grammars.specs.Listing.{dead_misfit, listing_misfit}
use Rattle.headers.specs.Tokens.{argument_tokens, differing, words_in}
use Rattle.lexemes.specs.Lists.{after, all_numerals, inside, item, items_of}
use Rattle.lexemes.specs.Reserved.{is_one_of, is_reserved, reserved_words}
use Rattle.names.specs.Earlier.{earlier, last_before}
use Rattle.names.specs.New.{named_by, new_pairs}
use Rattle.names.specs.Scopes.{forms_of, in_order, is_known, is_named, symbol_means}
use Rattle.names.specs.Unknown.{unknown_in}
use Rattle.operators.specs.Operators.{named, operator_at, operator_of, operator_sort, operators}
use Rattle.operators.specs.Sorts.{sort_by}
use Rattle.operators.specs.Values.{chained, group_left, group_right, pairwise, with_each}
use Rattle.script.specs.Response.{Answered, answered, bodies, in_script_order, judged_all, judged_body, judged_extra, refused as refusedBody}
use Rattle.script.specs.Script.{grammar_place, judged, known_after, limit_place, name_place, new_names, nothing_known, passed, Read, read_all, refused, sorting_place, terms_in, tested}
use Rattle.shapes.specs.Carried.{any_of, any_uncarried, before, command_uncarried, is_not_carried}
use Rattle.shapes.specs.Shapes.{all, attributes_shape, command_shape, term_shapes}
use Rattle.term_faults.specs.Faults.{rule_misfit, term_fault}
use Rattle.term_nodes.specs.Rules.{nodes_past, rule_past, rules_in, rules_of, sides}
use Rattle.term_nodes.specs.Terms.{constants_past, node_word, raw_terms}
use Rattle.terms.specs.Sorts.{called_sort, label_sort, same_sorts, sort_over, with_sort}
use Rattle.word_kinds.specs.Decimals.{is_decimal}
use Rattle.word_kinds.specs.Kinds.{all_in, formed, hashed, keyword_form, kind_of, literal as literal_kind, marked, numeral as numeral_kind, spelled, symbol as symbol_kind}
use Rattle.words.specs.Spans.{run_end, starts_from, word_end, word_starts}
use Rattle.words.specs.Trees.{levels_at, levels_before, trees_from}
use Rattle.words.specs.Words.{bytes_at, word_at, words_of}
use Rattle.written_sorts.specs.Written.{least_in}

-- A reading: a script, a response, and the number and the word of the refusal, of a script also the word of its second number; nothing where both pass.
pub record Reading : Type 0 where
  pub script : String
  pub response : String
  pub answer : List ℕ

-- One row of the table.
abbrev pub row : (script response : String) → List ℕ → Reading
row s r a = record { script = s; response = r; answer = a }

-- The answer to a response.
abbrev pub bodies_answer : Answered → List ℕ
bodies_answer (refusedBody number place) = number ∷ place ∷ []
bodies_answer (bodies ts) = []

-- The answer to a script, and where it passes to the response, a text.
abbrev pub both_answer : (response : List ℕ) → Read → List ℕ
both_answer response (refused number place second) = number ∷ place ∷ second ∷ []
both_answer response (passed k) =
    bodies_answer (answered allowed (length (words_of response)) k.defined (in_script_order k.functions) (items_of response))

-- What the definitions answer to two texts.
abbrev pub texts_answer : (script response : List ℕ) → List ℕ
texts_answer script response = both_answer response (read_all allowed (length (words_of script)) nothing_known (items_of script))

-- What they answer to a reading.
abbrev pub defined : Reading → List ℕ
defined reading = texts_answer (spelling reading.script) (spelling reading.response)

-- The readings.
abbrev readings : List Reading
readings =
    row "" "" (5 ∷ 0 ∷ 0 ∷ [])
    ∷ row "((((((((((((((((((((((((((((((((((((((((((((((((((((((((((((((((a))))))))))))))))))))))))))))))))))))))))))))))))))))))))))))))))" "" (5 ∷ 0 ∷ 0 ∷ [])
    ∷ row "foo (set-logic BV)" "" (5 ∷ 0 ∷ 0 ∷ [])
    ∷ row "(set-logic BV)()" "" (5 ∷ 4 ∷ 0 ∷ [])
    ∷ row "(assume true)(set-logic BV)" "" (5 ∷ 0 ∷ 0 ∷ [])
    ∷ row "(foo)(set-logic BV)" "" (5 ∷ 0 ∷ 0 ∷ [])
    ∷ row "(constraint (let ((x true)) x))" "" (6 ∷ 0 ∷ 0 ∷ [])
    ∷ row "(set-logic BV)(foo (let ((x true)) x))" "" (5 ∷ 4 ∷ 0 ∷ [])
    ∷ row "(set-logic BV)(let ((x true)) x)" "" (5 ∷ 4 ∷ 0 ∷ [])
    ∷ row "(set-logic BV)(set-logic BV)(synth-fun f () Bool ((A Bool)) ((A Bool (true))))(check-synth)" "" (5 ∷ 4 ∷ 0 ∷ [])
    ∷ row "(set-logic BV)(set-logic LIA)" "" (6 ∷ 4 ∷ 0 ∷ [])
    ∷ row "(set-logic LIA)" "" (6 ∷ 0 ∷ 0 ∷ [])
    ∷ row "(set-logic LIA LIA)" "" (5 ∷ 0 ∷ 0 ∷ [])
    ∷ row "(set-logic true)" "" (6 ∷ 0 ∷ 0 ∷ [])
    ∷ row "(set-logic 5)" "" (5 ∷ 0 ∷ 0 ∷ [])
    ∷ row "(set-logic BV)(check-synth)" "" (5 ∷ 4 ∷ 0 ∷ [])
    ∷ row "(set-logic BV)(synth-fun f () Bool ((A Bool)) ((A Bool (true)))) " "" (5 ∷ 26 ∷ 0 ∷ [])
    ∷ row "(set-logic BV)(synth-fun f () Bool ((A Bool)) ((A Bool (true))))(check-synth)(check-synth)" "" (5 ∷ 29 ∷ 0 ∷ [])
    ∷ row "(set-logic BV)(synth-fun f () Bool ((A Bool)) ((A Bool (true))))(check-synth) x" "" (5 ∷ 29 ∷ 0 ∷ [])
    ∷ row "(set-logic BV)(synth-fun f () Bool ((A Bool)) ((A Bool (true))))(check-synth)(assume true)" "" (5 ∷ 29 ∷ 0 ∷ [])
    ∷ row "(set-logic BV)(define-fun-rec g () Bool true)" "" (5 ∷ 4 ∷ 0 ∷ [])
    ∷ row "(set-logic BV)(declare-var assume Bool)(synth-fun f () Bool ((A Bool)) ((A Bool (true))))(check-synth)" "" (7 ∷ 6 ∷ 0 ∷ [])
    ∷ row "(set-logic BV)(declare-var define-fun-rec Bool)(synth-fun f () Bool ((A Bool)) ((A Bool (true))))(check-synth)" "((define-fun f () Bool true))" []
    ∷ row "(set-logic BV)(constraint (_))" "" (6 ∷ 4 ∷ 0 ∷ [])
    ∷ row "(set-logic BV)(constraint (_ bv5 8))" "" (8 ∷ 6 ∷ 0 ∷ [])
    ∷ row "(set-logic BV)(define-fun g ((let Bool)) Bool true)" "" (6 ∷ 4 ∷ 0 ∷ [])
    ∷ row "(set-logic BV)(define-fun g ((_ Bool)) Bool true)" "" (6 ∷ 4 ∷ 0 ∷ [])
    ∷ row "(set-logic BV)(define-fun g ((_ BitVec)) Bool true)" "" (7 ∷ 9 ∷ 0 ∷ [])
    ∷ row "(set-logic BV)(synth-fun f () Bool ((A Bool)) ((A Bool (let))))" "" (6 ∷ 4 ∷ 0 ∷ [])
    ∷ row "(set-logic BV)(declare-var let Bool)" "" (7 ∷ 6 ∷ 0 ∷ [])
    ∷ row "(set-logic BV)(constraint let)" "" (7 ∷ 6 ∷ 0 ∷ [])
    ∷ row "(set-logic BV)(synth-fun 5 x ())" "" (6 ∷ 4 ∷ 0 ∷ [])
    ∷ row "(set-logic BV)(synth-fun f)" "" (5 ∷ 4 ∷ 0 ∷ [])
    ∷ row "(set-logic BV)(synth-fun f () Bool ((A Bool (true))))" "" (5 ∷ 4 ∷ 0 ∷ [])
    ∷ row "(set-logic BV)(declare-var x Int)" "" (7 ∷ 7 ∷ 0 ∷ [])
    ∷ row "(set-logic BV)(declare-var x true)" "" (7 ∷ 7 ∷ 0 ∷ [])
    ∷ row "(set-logic BV)(declare-var x 8)" "" (5 ∷ 4 ∷ 0 ∷ [])
    ∷ row "(set-logic BV)(declare-var x (BitVec 8))" "" (5 ∷ 4 ∷ 0 ∷ [])
    ∷ row "(set-logic BV)(declare-var x (List Bool))" "" (5 ∷ 4 ∷ 0 ∷ [])
    ∷ row "(set-logic BV)(declare-var y (_ BitVec x))" "" (5 ∷ 4 ∷ 0 ∷ [])
    ∷ row "(set-logic BV)(declare-var y (_ extract 7 0))" "" (5 ∷ 4 ∷ 0 ∷ [])
    ∷ row "(set-logic BV)(declare-var y (_ BitVec 0))" "" (8 ∷ 7 ∷ 0 ∷ [])
    ∷ row "(set-logic BV)(declare-var y (_ BitVec 65))" "" (4 ∷ 10 ∷ 0 ∷ [])
    ∷ row "(set-logic BV)(declare-var y Bool)(declare-var y (_ BitVec 0))" "" (7 ∷ 11 ∷ 6 ∷ [])
    ∷ row "(set-logic BV)(declare-var x (_ BitVec 8))(declare-var p Bool)(constraint (= x (_ BitVec 8)))" "" (5 ∷ 18 ∷ 0 ∷ [])
    ∷ row "(set-logic BV)(declare-var x (_ BitVec 8))(declare-var p Bool)(constraint (= x (_ extract 7 0)))" "" (8 ∷ 23 ∷ 0 ∷ [])
    ∷ row "(set-logic BV)(declare-var x (_ BitVec 8))(declare-var p Bool)(constraint (= x ((_ extract 7 0))))" "" (5 ∷ 18 ∷ 0 ∷ [])
    ∷ row "(set-logic BV)(declare-var x (_ BitVec 8))(declare-var p Bool)(constraint (= x ((_ extract 7 x) x)))" "" (5 ∷ 18 ∷ 0 ∷ [])
    ∷ row "(set-logic BV)(declare-var x (_ BitVec 8))(declare-var p Bool)(constraint (= x ((_ extract 3 4) x)))" "" (8 ∷ 23 ∷ 0 ∷ [])
    ∷ row "(set-logic BV)(declare-var x (_ BitVec 8))(declare-var p Bool)(constraint ((_ BitVec 8) x))" "" (5 ∷ 18 ∷ 0 ∷ [])
    ∷ row "(set-logic BV)(declare-var x (_ BitVec 8))(declare-var p Bool)(constraint (= x extract))" "" (8 ∷ 23 ∷ 0 ∷ [])
    ∷ row "(set-logic BV)(declare-var x (_ BitVec 8))(declare-var p Bool)(constraint (= x (extract x)))" "" (8 ∷ 23 ∷ 0 ∷ [])
    ∷ row "(set-logic BV)(declare-var extract Bool)(synth-fun f () Bool ((A Bool)) ((A Bool (true))))(check-synth)" "" (7 ∷ 6 ∷ 0 ∷ [])
    ∷ row "(set-logic BV)(declare-var x (_ BitVec 8))(declare-var p Bool)(constraint (p))" "" (5 ∷ 18 ∷ 0 ∷ [])
    ∷ row "(set-logic BV)(declare-var x (_ BitVec 8))(declare-var p Bool)(constraint (bvadd))" "" (5 ∷ 18 ∷ 0 ∷ [])
    ∷ row "(set-logic BV)(declare-var x (_ BitVec 8))(declare-var p Bool)(constraint (q))" "" (5 ∷ 18 ∷ 0 ∷ [])
    ∷ row "(set-logic BV)(declare-var x (_ BitVec 8))(declare-var p Bool)(constraint ())" "" (5 ∷ 18 ∷ 0 ∷ [])
    ∷ row "(set-logic BV)(declare-var x (_ BitVec 8))(declare-var p Bool)(constraint (p p))" "" (8 ∷ 20 ∷ 0 ∷ [])
    ∷ row "(set-logic BV)(declare-var x (_ BitVec 8))(declare-var p Bool)(constraint (= x bvadd))" "" (8 ∷ 23 ∷ 0 ∷ [])
    ∷ row "(set-logic BV)(declare-var x (_ BitVec 8))(declare-var p Bool)(constraint (= x (bvadd 5)))" "" (8 ∷ 25 ∷ 0 ∷ [])
    ∷ row "(set-logic BV)(declare-var x (_ BitVec 8))(declare-var p Bool)(constraint (and x 5))" "" (8 ∷ 23 ∷ 0 ∷ [])
    ∷ row "(set-logic BV)(declare-var x (_ BitVec 8))(declare-var p Bool)(constraint (bvadd x (bvnot p)))" "" (8 ∷ 23 ∷ 0 ∷ [])
    ∷ row "(set-logic BV)(declare-var x (_ BitVec 8))(declare-var p Bool)(constraint (true p))" "" (5 ∷ 18 ∷ 0 ∷ [])
    ∷ row "(set-logic BV)(declare-var x (_ BitVec 8))(declare-var p Bool)(constraint (check-synth p))" "" (7 ∷ 21 ∷ 0 ∷ [])
    ∷ row "(set-logic BV)(declare-var x (_ BitVec 8))(declare-var p Bool)(constraint (BitVec 8))" "" (7 ∷ 21 ∷ 0 ∷ [])
    ∷ row "(set-logic BV)(declare-var x (_ BitVec 8))(declare-var p Bool)(constraint Constant)" "" (7 ∷ 20 ∷ 0 ∷ [])
    ∷ row "(set-logic BV)(declare-var x (_ BitVec 8))(declare-var p Bool)(constraint (Constant Bool))" "" (5 ∷ 18 ∷ 0 ∷ [])
    ∷ row "(set-logic BV)(declare-var x (_ BitVec 8))(declare-var p Bool)(constraint (and p p p))" "" (5 ∷ 27 ∷ 0 ∷ [])
    ∷ row "(set-logic BV)(declare-var x (_ BitVec 8))(declare-var p Bool)(constraint (= x -5))" "" (7 ∷ 23 ∷ 0 ∷ [])
    ∷ row "(set-logic BV)(declare-var x Bool)(define-fun g ((x Bool)) Bool x)" "" (7 ∷ 14 ∷ 6 ∷ [])
    ∷ row "(set-logic BV)(define-fun g ((x Bool)) Bool x)(declare-var x Bool)(synth-fun f () Bool ((A Bool)) ((A Bool (true))))(check-synth)" "((define-fun f () Bool true))" []
    ∷ row "(set-logic BV)(define-fun g ((g Bool)) Bool g)" "" (7 ∷ 9 ∷ 6 ∷ [])
    ∷ row "(set-logic BV)(define-fun g ((x Bool) (x Bool)) Bool x)" "" (7 ∷ 13 ∷ 9 ∷ [])
    ∷ row "(set-logic BV)(synth-fun f ((x Bool)) Bool ((x Bool)) ((x Bool (true))))" "" (7 ∷ 16 ∷ 9 ∷ [])
    ∷ row "(set-logic BV)(synth-fun f () Bool ((f Bool)) ((f Bool (true))))(check-synth)" "" (7 ∷ 12 ∷ 6 ∷ [])
    ∷ row "(set-logic BV)(synth-fun f () Bool ((A Bool)) ((A Bool (true))))(declare-var A Bool)(check-synth)" "((define-fun f () Bool true))" []
    ∷ row "(set-logic BV)(synth-fun f () Bool ((A Bool) (A Bool)) ((A Bool (true)) (A Bool (true))))" "" (7 ∷ 16 ∷ 12 ∷ [])
    ∷ row "(set-logic BV)(declare-var v Bool)(define-fun g () Bool v)" "" (7 ∷ 15 ∷ 0 ∷ [])
    ∷ row "(set-logic BV)(define-fun g ((x Bool)) Bool (g x))" "" (7 ∷ 15 ∷ 0 ∷ [])
    ∷ row "(set-logic BV)(synth-fun f () Bool ((A Bool)) ((A Bool (true))))(define-fun g () Bool f)" "" (7 ∷ 32 ∷ 0 ∷ [])
    ∷ row "(set-logic BV)(declare-var v Bool)(synth-fun f () Bool ((A Bool)) ((A Bool (v))))" "" (7 ∷ 26 ∷ 0 ∷ [])
    ∷ row "(set-logic BV)(synth-fun f () Bool ((A Bool)) ((A Bool (f))))" "" (7 ∷ 21 ∷ 0 ∷ [])
    ∷ row "(set-logic BV)(synth-fun f () Bool ((A Bool)) ((A Bool (fail))))" "" (7 ∷ 21 ∷ 0 ∷ [])
    ∷ row "(set-logic BV)(declare-var fail Bool)(synth-fun f () Bool ((A Bool)) ((A Bool (true))))(check-synth)" "((define-fun f () Bool true))" []
    ∷ row "(set-logic BV)(synth-fun f () Bool ((A Bool)) ((A Bool (true (A true)))))" "" (8 ∷ 22 ∷ 0 ∷ [])
    ∷ row "(set-logic BV)(constraint f)(synth-fun f () Bool ((A Bool)) ((A Bool (true))))(check-synth)" "" (7 ∷ 6 ∷ 0 ∷ [])
    ∷ row "(set-logic BV)(declare-var true Bool)" "" (7 ∷ 6 ∷ 0 ∷ [])
    ∷ row "(set-logic BV)(declare-var 5 Bool)" "" (5 ∷ 4 ∷ 0 ∷ [])
    ∷ row "(set-logic BV)(synth-fun f () Bool () ())(check-synth)" "" (9 ∷ 11 ∷ 0 ∷ [])
    ∷ row "(set-logic BV)(synth-fun f () Bool ((A Bool) (B Bool)) ((A Bool (true))))(check-synth)" "" (9 ∷ 28 ∷ 0 ∷ [])
    ∷ row "(set-logic BV)(synth-fun f () Bool ((A Bool)) ((A Bool (true)) (B Bool (true))))(check-synth)" "" (9 ∷ 25 ∷ 0 ∷ [])
    ∷ row "(set-logic BV)(synth-fun f () Bool ((A Bool) (B Bool)) ((B Bool (true)) (A Bool (true))))(check-synth)" "" (9 ∷ 22 ∷ 0 ∷ [])
    ∷ row "(set-logic BV)(synth-fun f () Bool ((A Bool)) ((Z Bool (true))))(check-synth)" "" (9 ∷ 18 ∷ 0 ∷ [])
    ∷ row "(set-logic BV)(synth-fun f () Bool ((A Bool)) ((true Bool (true))))(check-synth)" "" (9 ∷ 18 ∷ 0 ∷ [])
    ∷ row "(set-logic BV)(synth-fun f () Bool ((A Bool)) ((A (_ BitVec 8) (true))))(check-synth)" "" (9 ∷ 18 ∷ 0 ∷ [])
    ∷ row "(set-logic BV)(synth-fun f () Bool ((A Bool)) ((A Int (true))))(check-synth)" "" (7 ∷ 19 ∷ 0 ∷ [])
    ∷ row "(set-logic BV)(synth-fun f () Bool ((A Bool)) ((A Bool ())))(check-synth)" "" (9 ∷ 21 ∷ 0 ∷ [])
    ∷ row "(set-logic BV)(synth-fun f () Bool ((A Bool)) ((A Bool)))(check-synth)" "" (5 ∷ 4 ∷ 0 ∷ [])
    ∷ row "(set-logic BV)(synth-fun f () Bool ((A (_ BitVec 8))) ((A (_ BitVec 8) (#x00))))(check-synth)" "" (9 ∷ 12 ∷ 0 ∷ [])
    ∷ row "(set-logic BV)(synth-fun f () Bool ((A Bool)) ((A Bool (#x00))))(check-synth)" "" (9 ∷ 21 ∷ 0 ∷ [])
    ∷ row "(set-logic BV)(synth-fun f () Bool ((A Bool)) ((A Bool ((and A #x00)))))(check-synth)" "" (8 ∷ 21 ∷ 0 ∷ [])
    ∷ row "(set-logic BV)(synth-fun f () Bool ((A Bool)) ((A Bool (5))))(check-synth)" "" (8 ∷ 21 ∷ 0 ∷ [])
    ∷ row "(set-logic BV)(synth-fun f () Bool ((A Bool)) ((A Bool ((Constant (_ BitVec 8))))))(check-synth)" "" (9 ∷ 21 ∷ 0 ∷ [])
    ∷ row "(set-logic BV)(synth-fun f () Bool ((A Bool)) ((A Bool ((Variable Bool) true))))(check-synth)" "((define-fun f () Bool true))" []
    ∷ row "(set-logic BV)(synth-fun f () Bool ((A Bool)) ((A Bool ((Constant)))))(check-synth)" "" (5 ∷ 4 ∷ 0 ∷ [])
    ∷ row "(set-logic BV)(synth-fun f () Bool ((A Bool)) ((A Bool (Constant Bool))))(check-synth)" "" (7 ∷ 21 ∷ 0 ∷ [])
    ∷ row "(set-logic BV)(synth-fun f () Bool ((A Bool)) ((A Bool ((and (Constant Bool) A)))))(check-synth)" "" (5 ∷ 4 ∷ 0 ∷ [])
    ∷ row "(set-logic BV)(synth-fun f () Bool ((Constant Bool)) ((Constant Bool (true))))(check-synth)" "" (7 ∷ 12 ∷ 0 ∷ [])
    ∷ row "(set-logic BV)(synth-fun f () Bool ((A Bool) (B (_ BitVec 8))) ((A Bool (true B)) (B (_ BitVec 8) (#x00))))(check-synth)" "" (9 ∷ 30 ∷ 0 ∷ [])
    ∷ row "(set-logic BV)(synth-fun f () Bool ((A Bool)) ((A (_ BitVec 8) (#x00))))(check-synth)" "" (9 ∷ 18 ∷ 0 ∷ [])
    ∷ row "(set-logic BV)(declare-var x (_ BitVec 8))(declare-var p Bool)(constraint (and (p) (let ((q p)) q)) extra)" "" (6 ∷ 18 ∷ 0 ∷ [])
    ∷ row "(set-logic BV)(define-fun g ((a (_ BitVec 65))) Bool (a))" "" (5 ∷ 4 ∷ 0 ∷ [])
    ∷ row "(set-logic BV)(declare-var x (_ BitVec 8))(declare-var p Bool)(define-fun p ((a (_ BitVec 65))) Bool true)" "" (4 ∷ 27 ∷ 0 ∷ [])
    ∷ row "(set-logic BV)(declare-var x (_ BitVec 8))(declare-var p Bool)(constraint (and 5 nosuch))" "" (7 ∷ 23 ∷ 0 ∷ [])
    ∷ row "(set-logic BV)(synth-fun f () Bool ((A Bool)) ((A Bool (#x00 (and A 5)))))(check-synth)" "" (8 ∷ 25 ∷ 0 ∷ [])
    ∷ row "(set-logic BV)(synth-fun f () Bool ((A (_ BitVec 8))) ((A (_ BitVec 65) (#x00))))(check-synth)" "" (4 ∷ 26 ∷ 0 ∷ [])
    ∷ row "(set-logic BV)(synth-fun f () Bool ((A Bool)) ((A Bool (#x00))))(assume true)" "" (9 ∷ 21 ∷ 0 ∷ [])
    ∷ row "(set-logic BV)(synth-fun f () Bool ((A Bool)) ((A Bool (true false))))(synth-fun g ((x Bool)) Bool ((A Bool)) ((A Bool (x (not A)))))(check-synth)" "(fail)" (5 ∷ 1 ∷ [])
    ∷ row "(set-logic BV)(synth-fun f () Bool ((A Bool)) ((A Bool (true false))))(synth-fun g ((x Bool)) Bool ((A Bool)) ((A Bool (x (not A)))))(check-synth)" "fail fail" (5 ∷ 0 ∷ [])
    ∷ row "(set-logic BV)(synth-fun f () Bool ((A Bool)) ((A Bool (true false))))(synth-fun g ((x Bool)) Bool ((A Bool)) ((A Bool (x (not A)))))(check-synth)" "fail ((define-fun f () Bool true)(define-fun g ((x Bool)) Bool x))" (5 ∷ 0 ∷ [])
    ∷ row "(set-logic BV)(synth-fun f () Bool ((A Bool)) ((A Bool (true false))))(synth-fun g ((x Bool)) Bool ((A Bool)) ((A Bool (x (not A)))))(check-synth)" "infeasible" (11 ∷ 0 ∷ [])
    ∷ row "(set-logic BV)(synth-fun f () Bool ((A Bool)) ((A Bool (true false))))(synth-fun g ((x Bool)) Bool ((A Bool)) ((A Bool (x (not A)))))(check-synth)" "()" (12 ∷ 1 ∷ [])
    ∷ row "(set-logic BV)(synth-fun f () Bool ((A Bool)) ((A Bool (true false))))(synth-fun g ((x Bool)) Bool ((A Bool)) ((A Bool (x (not A)))))(check-synth)" "() x" (12 ∷ 1 ∷ [])
    ∷ row "(set-logic BV)(synth-fun f () Bool ((A Bool)) ((A Bool (true false))))(synth-fun g ((x Bool)) Bool ((A Bool)) ((A Bool (x (not A)))))(check-synth)" "((define-fun f () Bool true)(define-fun g ((x Bool)) Bool x)) x" (5 ∷ 22 ∷ [])
    ∷ row "(set-logic BV)(synth-fun f () Bool ((A Bool)) ((A Bool (true false))))(synth-fun g ((x Bool)) Bool ((A Bool)) ((A Bool (x (not A)))))(check-synth)" "((define-fun f () Bool zz)(define-fun g ((x Bool)) Bool x)) x" (7 ∷ 7 ∷ [])
    ∷ row "(set-logic BV)(synth-fun f () Bool ((A Bool)) ((A Bool (true false))))(synth-fun g ((x Bool)) Bool ((A Bool)) ((A Bool (x (not A)))))(check-synth)" "((define-fun f () Bool true)(define-fun g ((x Bool)) Bool x)) ((define-fun h () Bool (let ((a true)) a)))" (5 ∷ 22 ∷ [])
    ∷ row "(set-logic BV)(synth-fun f () Bool ((A Bool)) ((A Bool (true false))))(synth-fun g ((x Bool)) Bool ((A Bool)) ((A Bool (x (not A)))))(check-synth)" "(define-fun f () Bool true)(define-fun g ((x Bool)) Bool x)" (5 ∷ 1 ∷ [])
    ∷ row "(set-logic BV)(synth-fun f () Bool ((A Bool)) ((A Bool (true false))))(synth-fun g ((x Bool)) Bool ((A Bool)) ((A Bool (x (not A)))))(check-synth)" "(((define-fun f () Bool true)(define-fun g ((x Bool)) Bool x)))" (5 ∷ 1 ∷ [])
    ∷ row "(set-logic BV)(synth-fun f () Bool ((A Bool)) ((A Bool (true false))))(synth-fun g ((x Bool)) Bool ((A Bool)) ((A Bool (x (not A)))))(check-synth)" "((assume true))" (5 ∷ 1 ∷ [])
    ∷ row "(set-logic BV)(synth-fun f () Bool ((A Bool)) ((A Bool (true false))))(synth-fun g ((x Bool)) Bool ((A Bool)) ((A Bool (x (not A)))))(check-synth)" "((define-fun-rec f () Bool true)(define-fun g ((x Bool)) Bool x))" (5 ∷ 1 ∷ [])
    ∷ row "(set-logic BV)(synth-fun f () Bool ((A Bool)) ((A Bool (true false))))(synth-fun g ((x Bool)) Bool ((A Bool)) ((A Bool (x (not A)))))(check-synth)" "((define-fun f () Bool (let ((a true)) a))(define-fun g ((x Bool)) Bool x))" (6 ∷ 1 ∷ [])
    ∷ row "(set-logic BV)(synth-fun f () Bool ((A Bool)) ((A Bool (true false))))(synth-fun g ((x Bool)) Bool ((A Bool)) ((A Bool (x (not A)))))(check-synth)" "((define-fun g ((x Bool)) Bool x)(define-fun f () Bool true))" (12 ∷ 3 ∷ [])
    ∷ row "(set-logic BV)(synth-fun f () Bool ((A Bool)) ((A Bool (true false))))(synth-fun g ((x Bool)) Bool ((A Bool)) ((A Bool (x (not A)))))(check-synth)" "((define-fun f () Bool true)) " (12 ∷ 9 ∷ [])
    ∷ row "(set-logic BV)(synth-fun f () Bool ((A Bool)) ((A Bool (true false))))(synth-fun g ((x Bool)) Bool ((A Bool)) ((A Bool (x (not A)))))(check-synth)" "((define-fun f () Bool true)(define-fun g ((x Bool)) Bool x)(define-fun f () Bool true))" (12 ∷ 21 ∷ [])
    ∷ row "(set-logic BV)(synth-fun f () Bool ((A Bool)) ((A Bool (true false))))(synth-fun g ((x Bool)) Bool ((A Bool)) ((A Bool (x (not A)))))(check-synth)" "((define-fun f () Bool true)(define-fun g ((x Bool)) Bool x)(define-fun h))" (5 ∷ 21 ∷ [])
    ∷ row "(set-logic BV)(synth-fun f () Bool ((A Bool)) ((A Bool (true false))))(synth-fun g ((x Bool)) Bool ((A Bool)) ((A Bool (x (not A)))))(check-synth)" "((define-fun f () Bool true)(define-fun g ((x Bool)) Bool x)(foo))" (5 ∷ 21 ∷ [])
    ∷ row "(set-logic BV)(synth-fun f () Bool ((A Bool)) ((A Bool (true false))))(synth-fun g ((x Bool)) Bool ((A Bool)) ((A Bool (x (not A)))))(check-synth)" "((define-fun f () Bool true)(define-fun g ((y Bool)) Bool x))" (12 ∷ 14 ∷ [])
    ∷ row "(set-logic BV)(synth-fun f () Bool ((A Bool)) ((A Bool (true false))))(synth-fun g ((x Bool)) Bool ((A Bool)) ((A Bool (x (not A)))))(check-synth)" "((define-fun f () Bool true)(define-fun g () Bool true))" (12 ∷ 13 ∷ [])
    ∷ row "(set-logic BV)(synth-fun f () Bool ((A Bool)) ((A Bool (true false))))(synth-fun g ((x Bool)) Bool ((A Bool)) ((A Bool (x (not A)))))(check-synth)" "((define-fun f ((x Bool)) Bool true)(define-fun g ((x Bool)) Bool x))" (12 ∷ 5 ∷ [])
    ∷ row "(set-logic BV)(synth-fun f ((x (_ BitVec 8))) (_ BitVec 8) ((A (_ BitVec 8))) ((A (_ BitVec 8) (x))))(check-synth)" "((define-fun f ((x (_ BitVec 9))) (_ BitVec 8) x))" (12 ∷ 10 ∷ [])
    ∷ row "(set-logic BV)(synth-fun f () Bool ((A Bool)) ((A Bool (true false))))(synth-fun g ((x Bool)) Bool ((A Bool)) ((A Bool (x (not A)))))(check-synth)" "((define-fun f () (_ BitVec 8) #x00)(define-fun g ((x Bool)) Bool x))" (12 ∷ 6 ∷ [])
    ∷ row "(set-logic BV)(synth-fun f ((x (_ BitVec 8))) (_ BitVec 8) ((A (_ BitVec 8))) ((A (_ BitVec 8) (x))))(check-synth)" "((define-fun f ((x (_ BitVec 0))) (_ BitVec 8) x))" (12 ∷ 10 ∷ [])
    ∷ row "(set-logic BV)(synth-fun f () Bool ((A Bool)) ((A Bool (true false))))(synth-fun g ((x Bool)) Bool ((A Bool)) ((A Bool (x (not A)))))(check-synth)" "((define-fun f () (_ BitVec 65) true)(define-fun g ((x Bool)) Bool x))" (4 ∷ 9 ∷ [])
    ∷ row "(set-logic BV)(synth-fun f () Bool ((A Bool)) ((A Bool (true false))))(synth-fun g ((x Bool)) Bool ((A Bool)) ((A Bool (x (not A)))))(check-synth)" "((define-fun f ((a Bool) (b Bool) (c Bool) (d Bool) (e Bool) (g Bool) (h Bool) (i Bool) (j Bool)) Bool true)(define-fun g ((x Bool)) Bool x))" (4 ∷ 37 ∷ [])
    ∷ row "(set-logic BV)(synth-fun f () Bool ((A Bool)) ((A Bool (true false))))(synth-fun g ((x Bool)) Bool ((A Bool)) ((A Bool (x (not A)))))(check-synth)" "((define-fun f () Int true)(define-fun g ((x Bool)) Bool x))" (12 ∷ 6 ∷ [])
    ∷ row "(set-logic BV)(synth-fun f () Bool ((A Bool)) ((A Bool (true false))))(synth-fun g ((x Bool)) Bool ((A Bool)) ((A Bool (x (not A)))))(check-synth)" "((define-fun f () Bool true)(define-fun g ((let Bool)) Bool true))" (6 ∷ 9 ∷ [])
    ∷ row "(set-logic BV)(synth-fun f () Bool ((A Bool)) ((A Bool (true false))))(synth-fun g ((x Bool)) Bool ((A Bool)) ((A Bool (x (not A)))))(check-synth)" "((define-fun f () Bool true)(define-fun g ((x Bool)) Bool A))" (7 ∷ 19 ∷ [])
    ∷ row "(set-logic BV)(synth-fun f () Bool ((A Bool)) ((A Bool (true false))))(synth-fun g ((x Bool)) Bool ((A Bool)) ((A Bool (x (not A)))))(check-synth)" "((define-fun f () Bool true)(define-fun g ((x Bool)) Bool f))" (7 ∷ 19 ∷ [])
    ∷ row "(set-logic BV)(synth-fun f () Bool ((A Bool)) ((A Bool (true))))(define-fun d () Bool true)(check-synth)" "((define-fun f () Bool d))" (7 ∷ 7 ∷ [])
    ∷ row "(set-logic BV)(declare-var v Bool)(synth-fun f () Bool ((A Bool)) ((A Bool (true))))(check-synth)" "((define-fun f () Bool v))" (7 ∷ 7 ∷ [])
    ∷ row "(set-logic BV)(synth-fun f () Bool ((A Bool)) ((A Bool (true false))))(synth-fun g ((x Bool)) Bool ((A Bool)) ((A Bool (x (not A)))))(check-synth)" "((define-fun f () Bool #x00)(define-fun g ((x Bool)) Bool x))" (8 ∷ 7 ∷ [])
    ∷ row "(set-logic BV)(synth-fun f () Bool ((A Bool)) ((A Bool (true false))))(synth-fun g ((x Bool)) Bool ((A Bool)) ((A Bool (x (not A)))))(check-synth)" "((define-fun f () Bool zz) (define-fun g ((x Bool)) Bool (let ((a x)) a)))" (7 ∷ 7 ∷ [])
    ∷ row "(set-logic BV)(synth-fun f () Bool ((A Bool)) ((A Bool (true false))))(synth-fun g ((x Bool)) Bool ((A Bool)) ((A Bool (x (not A)))))(check-synth)" "((define-fun f () Bool (not true)))" (12 ∷ 12 ∷ [])
    ∷ row "(set-logic BV)(synth-fun f () Bool ((A Bool)) ((A Bool (true false))))(synth-fun g ((x Bool)) Bool ((A Bool)) ((A Bool (x (not A)))))(check-synth)" "((define-fun f () Bool (not true)) (define-fun g ((x Bool)) Bool (and x x)))" []
    ∷ row "(set-logic BV)(synth-fun f () (_ BitVec 8) ((A (_ BitVec 8))) ((A (_ BitVec 8) (#xFF))))(check-synth)" "((define-fun f () (_ BitVec 8) #xff))" []
    ∷ row "(set-logic BV)(synth-fun f () Bool ((A Bool)) ((A Bool ((Constant Bool)))))(check-synth)" "((define-fun f () Bool true))" []
    ∷ row "(set-logic BV)(define-fun d () Bool true)(synth-fun f () Bool ((A Bool)) ((A Bool ((Variable Bool)))))(check-synth)" "" (9 ∷ 20 ∷ 0 ∷ [])
    ∷ row "(set-logic BV)(declare-var x (_ BitVec 8))(declare-var p Bool)(synth-fun f () Bool ((A Bool)) ((A Bool (true))))(constraint (= x x))(check-synth)" "((define-fun f () Bool true))" []
    ∷ row "(set-logic BV)(declare-var x (_ BitVec 8))(declare-var p Bool)(synth-fun f () Bool ((A Bool)) ((A Bool (true))))(constraint (distinct x x))(check-synth)" "((define-fun f () Bool true))" []
    ∷ row "(set-logic BV)(synth-fun f () Bool ((A Bool)) ((A Bool (true))))(check-synth)" "((define-fun f () Bool true))" []
    ∷ row "(set-logic BV)(declare-var x (_ BitVec 8))(declare-var p Bool)(synth-fun f () Bool ((A Bool)) ((A Bool (true))))(constraint false)(check-synth)" "((define-fun f () Bool true))" []
    ∷ row "(set-logic BV)(declare-var x (_ BitVec 8))(declare-var p Bool)(synth-fun f () Bool ((A Bool)) ((A Bool (true))))(check-synth)" "((define-fun f () Bool true))" []
    ∷ row "(set-logic BV)(synth-fun f () Bool ((A Bool)) ((A Bool (true))))(define-fun d () Bool true)(constraint (= d d))(check-synth)" "((define-fun f () Bool true))" []
    ∷ row "(set-logic BV)(synth-fun f () Bool ((A Bool)) ((A Bool (true))))(constraint false)(check-synth)" "((define-fun f () Bool true))" []
    ∷ row "((set-logic BV))" "" (5 ∷ 0 ∷ 0 ∷ [])
    ∷ row "(set-logic BV)(declare-var x (_ BitVec 8))(declare-var p Bool)(constraint (as p Bool))" "" (7 ∷ 21 ∷ 0 ∷ [])
    ∷ row "(set-logic BV)(declare-var x (_ BitVec 8))(declare-var p Bool)(constraint (match p ((q q))))" "" (5 ∷ 18 ∷ 0 ∷ [])
    ∷ row "(set-logic BV)(declare-var as Bool)(synth-fun f () Bool ((A Bool)) ((A Bool (true))))(check-synth)" "((define-fun f () Bool true))" []
    ∷ row "(set-logic BV)(declare-var bvsdiv Bool)(synth-fun f () Bool ((A Bool)) ((A Bool (true))))(check-synth)" "" (7 ∷ 6 ∷ 0 ∷ [])
    ∷ row "(set-logic BV)(declare-var x (_ BitVec 8))(declare-var p Bool)(constraint (bvsle x x))" "" (5 ∷ 26 ∷ 0 ∷ [])
    ∷ row "(set-logic BV)(declare-var x (_ BitVec 8))(declare-var p Bool)(constraint (= x ((_ zero_extend 8) x)))" "" (6 ∷ 18 ∷ 0 ∷ [])
    ∷ row "(set-logic BV)(declare-var @.x Bool)(synth-fun f () Bool ((A Bool)) ((A Bool (true))))(check-synth)" "((define-fun f () Bool true))" []
    ∷ row "(set-logic BV)(declare-var Int Bool)(synth-fun f () Bool ((A Bool)) ((A Bool (true))))(check-synth)" "((define-fun f () Bool true))" []
    ∷ row "(set-logic BV)(declare-var x (_ BitVec 8))(declare-var p Bool)(declare-var z p)" "" (7 ∷ 21 ∷ 0 ∷ [])
    ∷ row "(set-logic BV)(declare-var (_ BitVec 8) Bool)" "" (5 ∷ 4 ∷ 0 ∷ [])
    ∷ row "(set-logic BV)(declare-var (_ x) Bool)" "" (6 ∷ 4 ∷ 0 ∷ [])
    ∷ row "(set-logic BV)(define-fun g (x Bool) Bool x)" "" (5 ∷ 4 ∷ 0 ∷ [])
    ∷ row "(set-logic BV)(define-fun g (let) Bool true)" "" (6 ∷ 4 ∷ 0 ∷ [])
    ∷ row "(set-logic BV)(declare-var x (_ BitVec 8))(declare-var p Bool)(constraint (declare-var p Bool))" "" (7 ∷ 21 ∷ 0 ∷ [])
    ∷ row "(set-logic BV)(declare-var x (_ BitVec 8))(declare-var p Bool)(constraint (foo bar))" "" (7 ∷ 21 ∷ 0 ∷ [])
    ∷ row "(set-logic BV)(define-fun g ((x Bool)) Bool x)(constraint g)" "" (8 ∷ 18 ∷ 0 ∷ [])
    ∷ row "(set-logic BV)(declare-var x (_ BitVec 8))(declare-var p Bool)(define-fun d () Bool true)(constraint (d p))" "" (8 ∷ 28 ∷ 0 ∷ [])
    ∷ row "(set-logic BV)(declare-var x (_ BitVec 8))(declare-var p Bool)(define-fun d () Bool true)(constraint (d))" "" (5 ∷ 26 ∷ 0 ∷ [])
    ∷ row "(set-logic BV)(declare-var x (_ BitVec 8))(declare-var p Bool)(constraint (and (bvult p p) (not x)))" "" (8 ∷ 22 ∷ 0 ∷ [])
    ∷ row "(set-logic BV)(declare-var x (_ BitVec 8))(declare-var p Bool)(constraint (= x (bvadd x p)))" "" (8 ∷ 23 ∷ 0 ∷ [])
    ∷ row "(set-logic BV)(declare-var a (_ BitVec 32))(declare-var b (_ BitVec 33))(constraint (= a (concat a b)))" "" (8 ∷ 27 ∷ 0 ∷ [])
    ∷ row "(set-logic BV)(declare-var x (_ BitVec 8))(declare-var p Bool)(constraint (= x ((_ extract 8 0) x)))" "" (8 ∷ 23 ∷ 0 ∷ [])
    ∷ row "(set-logic BV)(declare-var x (_ BitVec 8))(declare-var p Bool)(constraint (= x ((_ extract 999999999 0) x)))" "" (8 ∷ 23 ∷ 0 ∷ [])
    ∷ row "(set-logic BV)(declare-var x (_ BitVec 8))(declare-var p Bool)(constraint (= x ((_ extract 7 0) x x)))" "" (8 ∷ 23 ∷ 0 ∷ [])
    ∷ row "(set-logic BV)(define-fun g () Bool #x00)" "" (8 ∷ 10 ∷ 0 ∷ [])
    ∷ row "(set-logic BV)(define-fun g ((a (_ BitVec 0))) Bool a)" "" (8 ∷ 10 ∷ 0 ∷ [])
    ∷ row "(set-logic BV)(define-fun g ((a0 Bool) (a1 Bool) (a2 Bool) (a3 Bool) (a4 Bool) (a5 Bool) (a6 Bool) (a7 Bool) (a0 (_ BitVec 65))) Bool true)" "" (4 ∷ 40 ∷ 0 ∷ [])
    ∷ row "(set-logic BV)(synth-fun f () Bool ((A Bool) (B Bool) (C Bool)) ((A Bool (true)) (C Bool (true))))(check-synth)" "" (9 ∷ 33 ∷ 0 ∷ [])
    ∷ row "(set-logic BV)(synth-fun f () Bool ((A Bool)) ((A Bool (true)) (A Bool (true))))(check-synth)" "" (9 ∷ 25 ∷ 0 ∷ [])
    ∷ row "(set-logic BV)(synth-fun f () Bool ((A Bool)) ((A Bool (B)) (B Bool (true))))(check-synth)" "" (7 ∷ 21 ∷ 0 ∷ [])
    ∷ row "(set-logic BV)(synth-fun f () Bool () ((A Bool (true))))(check-synth)" "" (9 ∷ 11 ∷ 0 ∷ [])
    ∷ row "(set-logic BV)(synth-fun f () Bool ((A Bool)) ())(check-synth)" "" (9 ∷ 17 ∷ 0 ∷ [])
    ∷ row "(set-logic BV)(synth-fun f () Bool ((A Bool) (B Bool)) ((A Bool (B)) (B Bool (A))))(check-synth)" "" (9 ∷ 12 ∷ 0 ∷ [])
    ∷ row "(set-logic BV)(synth-fun f () Bool ((A Bool)) ((A Bool (true true))))(check-synth)" "((define-fun f () Bool true))" []
    ∷ row "(set-logic BV)(synth-fun f () Bool ((A Bool)) ((A Bool (A true))))(check-synth)" "((define-fun f () Bool true))" []
    ∷ row "(set-logic BV)(synth-fun f () Bool ((A (_ BitVec 0))) ((A (_ BitVec 0) (true))))(check-synth)" "" (8 ∷ 13 ∷ 0 ∷ [])
    ∷ row "(set-logic BV)(synth-fun f () Int ((A Bool)) ((A Bool (true))))(check-synth)" "" (7 ∷ 9 ∷ 0 ∷ [])
    ∷ row "(set-logic BV)(declare-var a Bool)(synth-fun f () Bool ((A Bool)) ((A Bool (true))))(constraint a)(declare-var b Bool)(check-synth)" "((define-fun f () Bool true))" []
    ∷ row "(set-logic BV)(synth-fun f () Bool ((A Bool)) ((A Bool (true false))))(synth-fun g ((x Bool)) Bool ((A Bool)) ((A Bool (x (not A)))))(check-synth)" "((define-fun f () Bool zz))" (7 ∷ 7 ∷ [])
    ∷ row "(set-logic BV)(synth-fun f () Bool ((A Bool)) ((A Bool (true false))))(synth-fun g ((x Bool)) Bool ((A Bool)) ((A Bool (x (not A)))))(check-synth)" "((define-fun f () Bool true)) ((define-fun g ((x Bool)) Bool x))" (12 ∷ 9 ∷ [])
    ∷ row "(set-logic BV)(synth-fun f () Bool ((A Bool)) ((A Bool (true false))))(synth-fun g ((x Bool)) Bool ((A Bool)) ((A Bool (x (not A)))))(check-synth)" "((define-fun f () Bool true)(define-fun f () Bool true))" (12 ∷ 11 ∷ [])
    ∷ row "(set-logic BV)(synth-fun f () Bool ((A Bool)) ((A Bool (true false))))(synth-fun g ((x Bool)) Bool ((A Bool)) ((A Bool (x (not A)))))(check-synth)" "((define-fun f () Bool true) x (define-fun g ((x Bool)) Bool x))" (5 ∷ 9 ∷ [])
    ∷ row "(set-logic BV)(synth-fun f () Bool ((A Bool)) ((A Bool (true false))))(synth-fun g ((x Bool)) Bool ((A Bool)) ((A Bool (x (not A)))))(check-synth)" "((define-fun h () Bool true) (define-fun))" (12 ∷ 3 ∷ [])
    ∷ row "(set-logic BV)(synth-fun f () Bool ((A Bool)) ((A Bool (true false))))(synth-fun g ((x Bool)) Bool ((A Bool)) ((A Bool (x (not A)))))(check-synth)" "((define-fun f () (_ BitVec 8) zz)(define-fun g ((x Bool)) Bool x))" (12 ∷ 6 ∷ [])
    ∷ row "(set-logic BV)(synth-fun f () Bool ((A Bool)) ((A Bool (true false))))(synth-fun g ((x Bool)) Bool ((A Bool)) ((A Bool (x (not A)))))(check-synth)" "((define-fun f () Bool (Constant Bool))(define-fun g ((x Bool)) Bool x))" (5 ∷ 1 ∷ [])
    ∷ row "(set-logic BV)(synth-fun f () Bool ((A Bool)) ((A Bool (true false))))(synth-fun g ((x Bool)) Bool ((A Bool)) ((A Bool (x (not A)))))(check-synth)" "((define-fun f () Bool (_ bv1 1))(define-fun g ((x Bool)) Bool x))" (8 ∷ 7 ∷ [])
    ∷ row "(set-logic BV)(synth-fun f () Bool ((A Bool)) ((A Bool (true false))))(synth-fun g ((x Bool)) Bool ((A Bool)) ((A Bool (x (not A)))))(check-synth)" "((define-fun f () Bool 1)(define-fun g ((x Bool)) Bool x))" (8 ∷ 7 ∷ [])
    ∷ row "(set-logic BV)(synth-fun f () Bool ((A Bool)) ((A Bool (true false))))(synth-fun g ((x Bool)) Bool ((A Bool)) ((A Bool (x (not A)))))(check-synth)" "((define-fun f () Bool x)(define-fun g ((x Bool)) Bool x))" (7 ∷ 7 ∷ [])
    ∷ row "(set-logic BV)(synth-fun f () Bool ((A Bool)) ((A Bool (true false))))(synth-fun g ((x Bool)) Bool ((A Bool)) ((A Bool (x (not A)))))(check-synth)" "((define-fun f () Bool (not true))(define-fun g ((x Bool)) Bool x))" []
    ∷ row "(set-logic BV)(synth-fun f () Bool ((A Bool)) ((A Bool (_ BitVec 8))))(check-synth)" "" (7 ∷ 21 ∷ 0 ∷ [])
    ∷ row "(set-logic BV)(synth-fun f () Bool ((A Bool)) ((A Bool ((Constant Int)))))(check-synth)" "" (7 ∷ 23 ∷ 0 ∷ [])
    ∷ row "(set-logic BV)(synth-fun f () Bool ((A Bool)) ((A Bool ((Constant (_ BitVec 0))))))(check-synth)" "" (8 ∷ 23 ∷ 0 ∷ [])
    ∷ row "(set-logic BV)(declare-var v (_ BitVec #x8))" "" (5 ∷ 4 ∷ 0 ∷ [])
    ∷ row "(set-logic BV)(define-fun g ((x Bool)) Bool x)(synth-fun f ((x Bool)) Bool ((A Bool)) ((A Bool (x))))(check-synth)" "((define-fun f ((x Bool)) Bool x))" []
    ∷ row "(set-logic BV)(synth-fun f ((d Bool)) Bool ((A Bool)) ((A Bool (d))))(define-fun d () Bool false)(check-synth)" "((define-fun f ((d Bool)) Bool d))" []
    ∷ row "(set-logic BV)assume" "" (5 ∷ 4 ∷ 0 ∷ [])
    ∷ row "(synth-fun f () Bool)" "" (6 ∷ 0 ∷ 0 ∷ [])
    ∷ row "(set-logic BV)(assume)" "" (5 ∷ 4 ∷ 0 ∷ [])
    ∷ row "(set-logic BV)(synth-fun f () Bool ())" "" (5 ∷ 4 ∷ 0 ∷ [])
    ∷ row "(set-logic BV)(synth-fun f () Bool ((A Bool)))" "" (5 ∷ 4 ∷ 0 ∷ [])
    ∷ row "(set-logic BV)(synth-fun f () Bool x)" "" (5 ∷ 4 ∷ 0 ∷ [])
    ∷ row "(set-logic BV)(synth-fun f () Bool ((A Bool)) ((A Bool (true))) x)" "" (5 ∷ 4 ∷ 0 ∷ [])
    ∷ row "(set-logic BV)(synth-fun)" "" (5 ∷ 4 ∷ 0 ∷ [])
    ∷ row "(set-logic)" "" (5 ∷ 0 ∷ 0 ∷ [])
    ∷ row "(set-logic (BV))" "" (5 ∷ 0 ∷ 0 ∷ [])
    ∷ row "(set-logic (_ BV))" "" (6 ∷ 0 ∷ 0 ∷ [])
    ∷ row "(set-logic BV)(synth-fun f () Bool ((A Bool)) ((A Bool (true false))))(check-synth (let))" "" (6 ∷ 27 ∷ 0 ∷ [])
    ∷ row "(set-logic BV)(synth-fun f () Bool ((A Bool)) ((A Bool (true false))))(check-synth x)" "" (5 ∷ 27 ∷ 0 ∷ [])
    ∷ row "(set-logic BV)(synth-fun f () Bool ((A Bool)) ((A Bool (true false))))(check-synth)(set-logic LIA)" "" (6 ∷ 30 ∷ 0 ∷ [])
    ∷ row "(set-logic BV)(synth-fun f () Bool ((A Bool)) ((A Bool (true false))))(check-synth)(constraint (let ((a true)) a))" "" (6 ∷ 30 ∷ 0 ∷ [])
    ∷ row "(set-logic BV)(synth-fun f () Bool ((A Bool)) ((A Bool (true false))))(check-synth)(synth-fun h () Bool)" "" (6 ∷ 30 ∷ 0 ∷ [])
    ∷ row "(set-logic BV)(declare-var x (_ BitVec 8))(declare-var p Bool)(constraint (= x (_ extract 7)))" "" (5 ∷ 18 ∷ 0 ∷ [])
    ∷ row "(set-logic BV)(declare-var x (_ BitVec 8))(declare-var p Bool)(constraint (= x (_ extract p x)))" "" (5 ∷ 18 ∷ 0 ∷ [])
    ∷ row "(set-logic BV)(declare-var x (_ BitVec 8))(declare-var p Bool)(constraint (= x (_ BitVec 65)))" "" (5 ∷ 18 ∷ 0 ∷ [])
    ∷ row "(set-logic BV)(declare-var x (_ BitVec 8))(declare-var p Bool)(constraint (((_ extract 7 0) x) x))" "" (5 ∷ 18 ∷ 0 ∷ [])
    ∷ row "(set-logic BV)(declare-var x (_ BitVec 8))(declare-var p Bool)(constraint (= x (extract 7 0 x)))" "" (8 ∷ 25 ∷ 0 ∷ [])
    ∷ row "(set-logic BV)(declare-var x (_ BitVec 8))(declare-var p Bool)(constraint (= x ((_ extract 0 0) p)))" "" (8 ∷ 23 ∷ 0 ∷ [])
    ∷ row "(set-logic BV)(declare-var x (_ BitVec 8))(declare-var p Bool)(synth-fun f () Bool ((x Bool)) ((x Bool (true))))" "" (7 ∷ 26 ∷ 6 ∷ [])
    ∷ row "(set-logic BV)(synth-fun f () Bool ((A Bool)) ((A Bool (true false))))(define-fun h ((f Bool)) Bool true)" "" (7 ∷ 32 ∷ 6 ∷ [])
    ∷ row "(set-logic BV)(synth-fun f () Bool ((A Bool)) ((A Bool (true false))))(synth-fun h () Bool ((A Bool)) ((A Bool (f))))" "" (7 ∷ 44 ∷ 0 ∷ [])
    ∷ row "(set-logic BV)(synth-fun f () Bool ((A Bool)) ((A Bool (true false))))(constraint A)" "" (7 ∷ 29 ∷ 0 ∷ [])
    ∷ row "(set-logic BV)(define-fun h ((q Bool)) Bool q)(constraint q)" "" (7 ∷ 18 ∷ 0 ∷ [])
    ∷ row "(set-logic BV)(synth-fun f () Bool ((A Bool)) ((A Bool (true false))))(define-fun A () Bool true)(check-synth)" "((define-fun f () Bool true))" []
    ∷ row "(set-logic BV)(synth-fun f () Bool ((A Bool)) (A Bool (true)))" "" (5 ∷ 4 ∷ 0 ∷ [])
    ∷ row "(set-logic BV)(synth-fun f () Bool ((A Bool)) ((A Bool true)))" "" (5 ∷ 4 ∷ 0 ∷ [])
    ∷ row "(set-logic BV)(synth-fun f () Bool (A Bool) ((A Bool (true))))" "" (5 ∷ 4 ∷ 0 ∷ [])
    ∷ row "(set-logic BV)(synth-fun f () Bool ((A Bool)) ((A Bool (()))))" "" (5 ∷ 4 ∷ 0 ∷ [])
    ∷ row "(set-logic BV)(synth-fun f () Bool ((A Bool)) (()))" "" (5 ∷ 4 ∷ 0 ∷ [])
    ∷ row "(set-logic BV)(synth-fun f () Bool (()) ((A Bool (true))))" "" (5 ∷ 4 ∷ 0 ∷ [])
    ∷ row "(set-logic BV)(synth-fun f ((x Bool)) Bool ((A Bool)) ((A Bool ((x)))))" "" (5 ∷ 4 ∷ 0 ∷ [])
    ∷ row "(set-logic BV)(synth-fun f () Bool ((A Bool)) ((B Bool ())))" "" (9 ∷ 18 ∷ 0 ∷ [])
    ∷ row "(set-logic BV)(synth-fun f () Bool ((A Bool)) ((_ BitVec (true))))" "" (7 ∷ 19 ∷ 0 ∷ [])
    ∷ row "(set-logic BV)(synth-fun f () Bool ((A Bool)) ((A Bool (and))))" "" (8 ∷ 21 ∷ 0 ∷ [])
    ∷ row "(set-logic BV)(synth-fun f () Bool ((A Bool)) ((A Bool ((_ BitVec 8)))))" "" (5 ∷ 4 ∷ 0 ∷ [])
    ∷ row "(set-logic BV)(synth-fun f () Bool ((A Bool)) ((A Bool ((_ extract 7 0)))))" "" (8 ∷ 21 ∷ 0 ∷ [])
    ∷ row "(set-logic BV)(synth-fun f () Bool ((A Bool)) ((A (_ BitVec 0) (true))))" "" (8 ∷ 19 ∷ 0 ∷ [])
    ∷ row "(set-logic BV)(synth-fun f () Bool ((A Bool)) ((A Bool ((Constant (_ BitVec 65))))))" "" (4 ∷ 26 ∷ 0 ∷ [])
    ∷ row "(set-logic BV)(declare-fun h () Bool)" "" (5 ∷ 4 ∷ 0 ∷ [])
    ∷ row "(set-logic BV)(declare-var BV Bool)(declare-var Start Bool)(declare-var declare-fun Bool)(synth-fun f () Bool ((A Bool)) ((A Bool (true false))))(check-synth)" "((define-fun f () Bool true))" []
    ∷ row "(set-logic BV)(synth-fun f () Bool ((A Bool)) ((A Bool (true false))))(synth-fun g ((x Bool)) Bool ((A Bool)) ((A Bool (x (not A)))))(check-synth)" "(())" (5 ∷ 1 ∷ [])
    ∷ row "(set-logic BV)(synth-fun f () Bool ((A Bool)) ((A Bool (true false))))(synth-fun g ((x Bool)) Bool ((A Bool)) ((A Bool (x (not A)))))(check-synth)" "((define-fun f () Bool true)(define-fun g ((x Bool)) Bool x) x)" (5 ∷ 21 ∷ [])
    ∷ row "(set-logic BV)(synth-fun f () Bool ((A Bool)) ((A Bool (true false))))(synth-fun g ((x Bool)) Bool ((A Bool)) ((A Bool (x (not A)))))(check-synth)" "Fail" (5 ∷ 0 ∷ [])
    ∷ row "(set-logic BV)(synth-fun f () Bool ((A Bool)) ((A Bool (true false))))(synth-fun g ((x Bool)) Bool ((A Bool)) ((A Bool (x (not A)))))(check-synth)" "5" (5 ∷ 0 ∷ [])
    ∷ row "(set-logic BV)(synth-fun f () Bool ((A Bool)) ((A Bool (true false))))(synth-fun g ((x Bool)) Bool ((A Bool)) ((A Bool (x (not A)))))(check-synth)" "((define-fun f () Bool true)(define-fun g ((x Bool)) Bool x)(define-fun h () Bool (let ((a true)) a)))" (6 ∷ 21 ∷ [])
    ∷ row "(set-logic BV)(synth-fun f () Bool ((A Bool)) ((A Bool (true false))))(synth-fun g ((x Bool)) Bool ((A Bool)) ((A Bool (x (not A)))))(check-synth)" "((define-fun f () Bool true)(define-fun g ((x Bool) (y Bool)) Bool x))" (12 ∷ 17 ∷ [])
    ∷ row "(set-logic BV)(synth-fun f () Bool ((A Bool)) ((A Bool (true false))))(synth-fun g ((x Bool)) Bool ((A Bool)) ((A Bool (x (not A)))))(check-synth)" "((define-fun f Bool true))" (5 ∷ 1 ∷ [])
    ∷ row "(set-logic BV)(synth-fun f () Bool ((A Bool)) ((A Bool (true false))))(synth-fun g ((x Bool)) Bool ((A Bool)) ((A Bool (x (not A)))))(check-synth)" "((define-fun f () (_ BitVec x) true))" (5 ∷ 1 ∷ [])
    ∷ row "(set-logic BV)(synth-fun f () Bool ((A Bool)) ((A Bool (true false))))(synth-fun g ((x Bool)) Bool ((A Bool)) ((A Bool (x (not A)))))(check-synth)" "((define-fun 5 () Bool true))" (5 ∷ 1 ∷ [])
    ∷ row "(set-logic BV)(synth-fun f () Bool ((A Bool)) ((A Bool (true false))))(synth-fun g ((x Bool)) Bool ((A Bool)) ((A Bool (x (not A)))))(check-synth)" "((define-fun true () Bool true))" (12 ∷ 3 ∷ [])
    ∷ row "(set-logic BV)(synth-fun f () Bool ((A Bool)) ((A Bool (true false))))(synth-fun g ((x Bool)) Bool ((A Bool)) ((A Bool (x (not A)))))(check-synth)" "((define-fun h () Int true))" (12 ∷ 3 ∷ [])
    ∷ row "(set-logic BV)(synth-fun f () Bool ((A Bool)) ((A Bool (true false))))(synth-fun g ((x Bool)) Bool ((A Bool)) ((A Bool (x (not A)))))(check-synth)" "((define-fun f () Bool (true)))" (5 ∷ 1 ∷ [])
    ∷ row "(set-logic BV)(synth-fun f () Bool ((A Bool)) ((A Bool (true false))))(synth-fun g ((x Bool)) Bool ((A Bool)) ((A Bool (x (not A)))))(check-synth)" "((define-fun f () Bool let))" (7 ∷ 7 ∷ [])
    ∷ row "(set-logic BV)(declare-var x (_ BitVec 8))(declare-var p Bool)(synth-fun f () Bool ((A Bool)) ((A Bool (true false))))(constraint (distinct x x))(check-synth)" "((define-fun f () Bool true))" []
    ∷ row "(set-logic BV)(declare-var x (_ BitVec 8))(declare-var p Bool)(synth-fun f () Bool ((A Bool)) ((A Bool (true false))))(constraint (= x x))(check-synth)" "((define-fun f () Bool true))" []
    ∷ row "(set-logic BV)(declare-var x (_ BitVec 8))(declare-var p Bool)(constraint (and bvadd 5))" "" (8 ∷ 22 ∷ 0 ∷ [])
    ∷ row "(set-logic BV)(declare-var x (_ BitVec 8))(declare-var p Bool)(constraint (and 5 Bool))" "" (7 ∷ 23 ∷ 0 ∷ [])
    ∷ row "(set-logic BV)(declare-var x (_ BitVec 8))(declare-var p Bool)(constraint (Bool 5))" "" (7 ∷ 21 ∷ 0 ∷ [])
    ∷ row "(set-logic BV)(declare-var x (_ BitVec 8))(declare-var p Bool)(constraint (and p !))" "" (7 ∷ 23 ∷ 0 ∷ [])
    ∷ row "(set-logic BV)(declare-var x (_ BitVec 8))(declare-var p Bool)(constraint x)" "" (8 ∷ 20 ∷ 0 ∷ [])
    ∷ row "(set-logic BV)(declare-var x (_ BitVec 8))(declare-var p Bool)(constraint (bvadd x x))" "" (8 ∷ 20 ∷ 0 ∷ [])
    ∷ row "(set-logic BV)(declare-var x Bool)x" "" (5 ∷ 9 ∷ 0 ∷ [])
    ∷ row "(set-logic BV)(declare-var x (_ BitVec 8))(declare-var p Bool)(constraint (x (p) 5))" "" (5 ∷ 18 ∷ 0 ∷ [])
    ∷ row "(set-logic BV)(declare-var x (_ BitVec 8))(declare-var p Bool)(constraint (= x (concat x x)))" "" (8 ∷ 20 ∷ 0 ∷ [])
    ∷ row "(set-logic BV)(synth-fun f () Bool ((A Bool)) ((A Bool (true false))))(synth-fun f () Bool ((A Bool)) ((A Bool (true false))))" "" (7 ∷ 29 ∷ 6 ∷ [])
    ∷ row "(check-synth)" "" (5 ∷ 0 ∷ 0 ∷ [])
    ∷ row "(declare-var x Int)" "" (5 ∷ 0 ∷ 0 ∷ [])
    ∷ row "(set-logic BV)(declare-var (let Bool))" "" (6 ∷ 4 ∷ 0 ∷ [])
    ∷ row "(set-logic BV)(declare-var x)" "" (5 ∷ 4 ∷ 0 ∷ [])
    ∷ row "(set-logic BV)(constraint)" "" (5 ∷ 4 ∷ 0 ∷ [])
    ∷ row "(set-logic BV)(constraint true true)" "" (5 ∷ 4 ∷ 0 ∷ [])
    ∷ row "(set-logic BV)(declare-var x ())" "" (5 ∷ 4 ∷ 0 ∷ [])
    ∷ row "(set-logic BV)(define-fun h (()) Bool true)" "" (5 ∷ 4 ∷ 0 ∷ [])
    ∷ row "(set-logic BV)(define-fun h (_ BitVec 8) Bool true)" "" (5 ∷ 4 ∷ 0 ∷ [])
    ∷ row "(set-logic BV)(define-fun h ((x Bool Bool)) Bool true)" "" (5 ∷ 4 ∷ 0 ∷ [])
    ∷ row "(set-logic BV)(Constant Bool)" "" (5 ∷ 4 ∷ 0 ∷ [])
    ∷ row "(set-logic BV)(true)" "" (5 ∷ 4 ∷ 0 ∷ [])
    ∷ row "(set-logic BV)(declare-var y (_ BitVec))" "" (5 ∷ 4 ∷ 0 ∷ [])
    ∷ row "(set-logic BV)(declare-var y (_ BitVec 8 8))" "" (5 ∷ 4 ∷ 0 ∷ [])
    ∷ row "(set-logic BV)(declare-var x (_ BitVec 8))(declare-var p Bool)(constraint (= x ((_ extract 7) x)))" "" (5 ∷ 18 ∷ 0 ∷ [])
    ∷ row "(set-logic BV)(synth-fun f () Bool ((A Bool)) ((A Bool ((Constant Bool Bool)))))" "" (5 ∷ 4 ∷ 0 ∷ [])
    ∷ row "(set-logic BV)(synth-fun f () Bool ((A Bool)) ((A Bool ((Constant 8)))))" "" (5 ∷ 4 ∷ 0 ∷ [])
    ∷ row "(5)" "" (5 ∷ 0 ∷ 0 ∷ [])
    ∷ row "(set-logic BV)(declare-var par Bool)(declare-var match Bool)(declare-var .x Bool)(synth-fun f () Bool ((A Bool)) ((A Bool (true false))))(check-synth)" "((define-fun f () Bool true))" []
    ∷ row "(set-logic BV)(declare-var x (_ BitVec 8))(declare-var p Bool)(constraint (= x +))" "" (7 ∷ 23 ∷ 0 ∷ [])
    ∷ row "(set-logic BV)(declare-var #x0 Bool)" "" (5 ∷ 4 ∷ 0 ∷ [])
    ∷ row "(set-logic BV)(synth-fun f () Bool ((A Bool)) ((A Bool ((Variable x)))))" "" (7 ∷ 23 ∷ 0 ∷ [])
    ∷ row "(set-logic BV)(synth-fun f () Bool ((A Bool)) ((A Bool ((Constant true)))))" "" (7 ∷ 23 ∷ 0 ∷ [])
    ∷ row "(set-logic BV)(synth-fun f () Bool ((A Bool)) ((A Bool ((Constant (Constant Bool))))))" "" (5 ∷ 4 ∷ 0 ∷ [])
    ∷ row "(set-logic BV)(synth-fun f () Bool ((_ Bool)) ((A Bool (true))))" "" (6 ∷ 4 ∷ 0 ∷ [])
    ∷ row "(set-logic BV)(declare-var x (_ BitVec 8))(declare-var p Bool)(constraint (= x (_ extract 7 0 x)))" "" (5 ∷ 18 ∷ 0 ∷ [])
    ∷ row "(set-logic BV)(declare-var y (_ BitVec 999999999))" "" (4 ∷ 10 ∷ 0 ∷ [])
    ∷ row "(set-logic BV)(declare-var x (_ BitVec 8))(declare-var p Bool)(constraint (= TRUE p))" "" (7 ∷ 22 ∷ 0 ∷ [])
    ∷ row "(set-logic BV)(define-fun h ((x Bool)) Bool x)(define-fun k ((h Bool)) Bool h)" "" (7 ∷ 21 ∷ 6 ∷ [])
    ∷ row "(set-logic BV)(declare-var x Bool)(define-fun x () Bool true)" "" (7 ∷ 11 ∷ 6 ∷ [])
    ∷ row "(set-logic BV)(synth-fun f () Bool ((A Bool)) ((A Bool (true false))))(declare-var f Bool)" "" (7 ∷ 29 ∷ 6 ∷ [])
    ∷ row "(set-logic BV)(declare-var x (_ BitVec 8))(declare-var p Bool)(constraint ((let ((a p)) a) x))" "" (6 ∷ 18 ∷ 0 ∷ [])
    ∷ row "(set-logic BV)(declare-var x (_ BitVec 8))(declare-var p Bool)(constraint (and _ p))" "" (7 ∷ 22 ∷ 0 ∷ [])
    ∷ row "(set-logic BV)(declare-var x (_ BitVec 8))(declare-var p Bool)(constraint (exists))" "" (6 ∷ 18 ∷ 0 ∷ [])
    ∷ row "(set-logic BV)(declare-var x (_ BitVec 8))(declare-var p Bool)(constraint (= x (bvand x)))" "" (8 ∷ 23 ∷ 0 ∷ [])
    ∷ row "(set-logic BV)(declare-var x (_ BitVec 8))(declare-var p Bool)(constraint (= x (concat x)))" "" (8 ∷ 23 ∷ 0 ∷ [])
    ∷ row "(set-logic BV)(synth-fun f () Bool ((A Bool)) ((A Bool (true false))))(synth-fun g ((x Bool)) Bool ((A Bool)) ((A Bool (x (not A)))))(check-synth)" "((constraint true))" (5 ∷ 1 ∷ [])
    ∷ row "(set-logic BV)(synth-fun f () Bool ((A Bool)) ((A Bool (true false))))(synth-fun g ((x Bool)) Bool ((A Bool)) ((A Bool (x (not A)))))(check-synth)" "((define-fun g ((x Bool)) Bool x))" (12 ∷ 3 ∷ [])
    ∷ row "(set-logic BV)(synth-fun f () Bool ((A Bool)) ((A Bool (true false))))(synth-fun g ((x Bool)) Bool ((A Bool)) ((A Bool (x (not A)))))(check-synth)" "((define-fun h () Bool true)(define-fun f () Bool true)(define-fun g ((x Bool)) Bool x))" (12 ∷ 3 ∷ [])
    ∷ row "(set-logic BV)(synth-fun f () Bool ((A Bool)) ((A Bool (true false))))(synth-fun g ((x Bool)) Bool ((A Bool)) ((A Bool (x (not A)))))(check-synth)" "((let ((a b)) c))" (5 ∷ 1 ∷ [])
    ∷ row "(set-logic BV)(synth-fun f () Bool ((A Bool)) ((A Bool (true false))))(synth-fun g ((x Bool)) Bool ((A Bool)) ((A Bool (x (not A)))))(check-synth)" "((constraint (let ((a b)) c)))" (5 ∷ 1 ∷ [])
    ∷ row "(set-logic BV)(synth-fun f () Bool ((A Bool)) ((A Bool (true false))))(synth-fun g ((x Bool)) Bool ((A Bool)) ((A Bool (x (not A)))))(check-synth)" "((define-fun f () Bool true) x)" (5 ∷ 9 ∷ [])
    ∷ row "(set-logic BV)(synth-fun f () Bool ((A Bool)) ((A Bool (true false))))(synth-fun g ((x Bool)) Bool ((A Bool)) ((A Bool (x (not A)))))(check-synth)" "((define-fun f () Bool true)(define-fun g ((x Bool)) Bool x)(define-fun h () (_ BitVec 65) true))" (4 ∷ 29 ∷ [])
    ∷ row "(set-logic BV)(synth-fun f () Bool ((A Bool)) ((A Bool (true false))))(synth-fun g ((x Bool)) Bool ((A Bool)) ((A Bool (x (not A)))))(check-synth)" "((define-fun f () Bool true)(define-fun g ((x Bool)) Bool x)(define-fun h () Bool zz))" (12 ∷ 21 ∷ [])
    ∷ row "(set-logic BV)(synth-fun f () Bool ((A Bool)) ((A Bool (true false))))(synth-fun g ((x Bool)) Bool ((A Bool)) ((A Bool (x (not A)))))(check-synth)" "unknown" (5 ∷ 0 ∷ [])
    ∷ row "(set-logic BV)(synth-fun f () Bool ((A Bool)) ((A Bool (true false))))(synth-fun g ((x Bool)) Bool ((A Bool)) ((A Bool (x (not A)))))(check-synth)" "((define-fun f () Bool (f)))" (5 ∷ 1 ∷ [])
    ∷ row "(set-logic BV)(synth-fun f () Bool ((A Bool)) ((A Bool (true false))))(synth-fun g ((x Bool)) Bool ((A Bool)) ((A Bool (x (not A)))))(check-synth)" "((define-fun f () (_ BitVec) true))" (5 ∷ 1 ∷ [])
    ∷ row "(set-logic BV)(synth-fun f () Bool ((A Bool)) ((A Bool (true false))))(synth-fun g ((x Bool)) Bool ((A Bool)) ((A Bool (x (not A)))))(check-synth)" "((define-fun f ((_ BitVec)) Bool true))" (12 ∷ 5 ∷ [])
    ∷ row "(set-logic BV)(synth-fun f () Bool ((A Bool)) ((A Bool (true false))))(synth-fun g ((x Bool)) Bool ((A Bool)) ((A Bool (x (not A)))))(check-synth)" "((define-fun f () let true))" (12 ∷ 6 ∷ [])
    ∷ row "(set-logic BV)(synth-fun f () Bool ((A Bool)) ((A Bool (true false))))(synth-fun g ((x Bool)) Bool ((A Bool)) ((A Bool (x (not A)))))(check-synth)" "(define-fun)" (5 ∷ 1 ∷ [])
    ∷ row "(set-logic BV)(synth-fun f () Bool ((A Bool)) ((A Bool (true false))))(synth-fun g ((x Bool)) Bool ((A Bool)) ((A Bool (x (not A)))))(check-synth)" "((define-fun))" (5 ∷ 1 ∷ [])
    ∷ row "(set-logic BV)(synth-fun f () Bool ((A Bool)) ((A Bool (true false))))(synth-fun g ((x Bool)) Bool ((A Bool)) ((A Bool (x (not A)))))(check-synth)" "((define-fun f () Bool true)(define-fun g ((x Bool)) Bool x) ())" (5 ∷ 21 ∷ [])
    ∷ row "(set-logic BV)(synth-fun f () Bool ((A Bool)) ((A Bool (true false))))(synth-fun g ((x Bool)) Bool ((A Bool)) ((A Bool (x (not A)))))(check-synth)" "((define-fun f () Bool true)(define-fun g (x Bool) Bool x))" (5 ∷ 9 ∷ [])
    ∷ row "(set-logic BV)(synth-fun f () (_ BitVec 8) ((A (_ BitVec 8))) ((A (_ BitVec 8) (#x0F))))(check-synth)" "((define-fun f () (_ BitVec 8) #b00001111))" []
    ∷ row "(set-logic BV)(synth-fun f () (_ BitVec 8) ((A (_ BitVec 8))) ((A (_ BitVec 8) (#x0F))))(check-synth)" "((define-fun f () (_ BitVec 8) (_ bv15 8)))" []
    ∷ row "(set-logic BV)(synth-fun f () (_ BitVec 8) ((A (_ BitVec 8))) ((A (_ BitVec 8) ((_ bv15 8)))))(check-synth)" "((define-fun f () (_ BitVec 8) #x0f))" []
    ∷ row "(set-logic BV)(synth-fun f () Bool ((A Bool)) ((A Bool ((= #x01 #x01)))))(check-synth)" "((define-fun f () Bool (= #x1 #x1)))" []
    ∷ row "(set-logic BV)(synth-fun f () (_ BitVec 8) ((A (_ BitVec 8))) ((A (_ BitVec 8) ((Constant (_ BitVec 8))))))(check-synth)" "((define-fun f () (_ BitVec 8) (_ bv15 8)))" []
    ∷ row "(set-logic BV)(declare-var x (_ BitVec 8))(declare-var p Bool)(constraint (= x (_ bv5)))" "" (5 ∷ 18 ∷ 0 ∷ [])
    ∷ row "(set-logic BV)(declare-var x (_ BitVec 8))(declare-var p Bool)(constraint (= x (_ bv5 x)))" "" (5 ∷ 18 ∷ 0 ∷ [])
    ∷ row "(set-logic BV)(declare-var x (_ BitVec 8))(declare-var p Bool)(constraint (= x (_ bv 8)))" "" (6 ∷ 18 ∷ 0 ∷ [])
    ∷ row "(set-logic BV)(declare-var x (_ BitVec 8))(declare-var p Bool)(constraint (= x (_ bv05 8)))" "" (6 ∷ 18 ∷ 0 ∷ [])
    ∷ row "(set-logic BV)(declare-var x (_ BitVec 8))(declare-var p Bool)(constraint (= x (_ bv111111111111111111111 8)))" "" (4 ∷ 25 ∷ 0 ∷ [])
    ∷ row "(set-logic BV)(declare-var y (_ BitVec 64))(constraint (= y (_ bv99999999999999999999 64)))" "" (8 ∷ 18 ∷ 0 ∷ [])
    ∷ row "(set-logic BV)(declare-var x (_ BitVec 8))(declare-var p Bool)(constraint (= x (_ bv256 8)))" "" (8 ∷ 23 ∷ 0 ∷ [])
    ∷ row "(set-logic BV)(declare-var x (_ BitVec 8))(declare-var p Bool)(constraint (= x (_ bv0 0)))" "" (8 ∷ 23 ∷ 0 ∷ [])
    ∷ row "(set-logic BV)(declare-var x (_ BitVec 8))(declare-var p Bool)(constraint (= x (_ bv0 65)))" "" (4 ∷ 26 ∷ 0 ∷ [])
    ∷ row "(set-logic BV)(declare-var x (_ BitVec 8))(declare-var p Bool)(constraint (= x (_ bv111111111111111111111 65)))" "" (4 ∷ 25 ∷ 0 ∷ [])
    ∷ row "(set-logic BV)(declare-var x (_ BitVec 8))(declare-var p Bool)(constraint (= x ((_ bv5 8) x)))" "" (5 ∷ 18 ∷ 0 ∷ [])
    ∷ row "(set-logic BV)(declare-var y (_ bv5 8))" "" (5 ∷ 4 ∷ 0 ∷ [])
    ∷ row "(set-logic BV)(declare-var bv5 Bool)(synth-fun f () Bool ((A Bool)) ((A Bool (true))))(check-synth)" "((define-fun f () Bool true))" []
    ∷ row "(set-logic BV)(declare-var x (_ BitVec 8))(declare-var p Bool)(constraint (= x bv5))" "" (7 ∷ 23 ∷ 0 ∷ [])
    ∷ row "(set-logic BV)(declare-var x (_ BitVec 8))(declare-var p Bool)(constraint (and p))" "" (8 ∷ 20 ∷ 0 ∷ [])
    ∷ row "(set-logic BV)(declare-var x (_ BitVec 8))(declare-var p Bool)(constraint (and))" "" (5 ∷ 18 ∷ 0 ∷ [])
    ∷ row "(set-logic BV)(synth-fun f () Bool ((A Bool)) ((A Bool (true))))(constraint (=> false true false))(check-synth)" "((define-fun f () Bool true))" []
    ∷ row "(set-logic BV)(synth-fun f () Bool ((A Bool)) ((A Bool (true))))(constraint (= true false false))(check-synth)" "((define-fun f () Bool true))" []
    ∷ row "(set-logic BV)(synth-fun f () Bool ((A Bool)) ((A Bool (true))))(constraint (distinct true false true))(check-synth)" "((define-fun f () Bool true))" []
    ∷ row "(set-logic BV)(synth-fun f () Bool ((A Bool)) ((A Bool (true))))(constraint (xor true true true))(check-synth)" "((define-fun f () Bool true))" []
    ∷ row "(set-logic BV)(declare-var x (_ BitVec 8))(declare-var p Bool)(constraint (= x (bvand x x x)))" "" (8 ∷ 23 ∷ 0 ∷ [])
    ∷ row "(set-logic BV)(declare-var x (_ BitVec 8))(declare-var p Bool)(constraint (ite p p p p))" "" (8 ∷ 20 ∷ 0 ∷ [])
    ∷ row "(set-logic BV)(synth-fun f ((a Bool)) Bool ((A Bool)) ((A Bool (a (and A A)))))(check-synth)" "((define-fun f ((a Bool)) Bool (and a a a)))" []
    ∷ row "(set-logic BV)(synth-fun f ((a Bool)) Bool ((A Bool)) ((A Bool (a (and A A A)))))(check-synth)" "((define-fun f ((a Bool)) Bool (and (and a a) a)))" []
    ∷ row "(set-logic BV)(declare-var x (_ BitVec 8))(declare-var p Bool)(constraint (= x x p))" "" (8 ∷ 20 ∷ 0 ∷ [])
    ∷ row "(set-logic BV)(synth-fun f () (_ BitVec 8) ((A (_ BitVec 8))) ((A (_ BitVec 8) ((_ bv256 8)))))(check-synth)" "" (8 ∷ 33 ∷ 0 ∷ [])
    ∷ row "(set-logic BV)(define-fun g ((_ bv5)) Bool true)" "" (7 ∷ 9 ∷ 0 ∷ [])
    ∷ row "(set-logic BV)(declare-var x (_ BitVec 8))(declare-var p Bool)(constraint (= (_ bv256 8) 5))" "" (8 ∷ 22 ∷ 0 ∷ [])
    ∷ row "(set-logic BV)(synth-fun f () Bool ((A Bool)) ((A Bool (true))))(constraint (= true false true))(check-synth)" "((define-fun f () Bool true))" []
    ∷ row "(set-logic BV)(declare-var x (_ BitVec 8))(declare-var p Bool)(constraint (= x bvsdiv))" "" (8 ∷ 23 ∷ 0 ∷ [])
    ∷ row "(set-logic BV)(synth-fun f () Bool ((A Bool)) ((A Bool (true))))(constraint (= (bvsdiv #x05 #x00) #xFF))(check-synth)" "((define-fun f () Bool true))" []
    ∷ row "(set-logic BV)(synth-fun f () Bool ((A Bool)) ((A Bool (true))))(constraint (= (bvsdiv #xFB #x00) #x01))(check-synth)" "((define-fun f () Bool true))" []
    ∷ row "(set-logic BV)(synth-fun f () Bool ((A Bool)) ((A Bool (true))))(constraint (= (bvsrem #xFB #x00) #xFB))(check-synth)" "((define-fun f () Bool true))" []
    ∷ row "(set-logic BV)(synth-fun f () Bool ((A Bool)) ((A Bool (true))))(constraint (= (bvsmod #xFB #x00) #xFB))(check-synth)" "((define-fun f () Bool true))" []
    ∷ row "(set-logic BV)(synth-fun f () Bool ((A Bool)) ((A Bool (true))))(constraint (= (bvsmod #x07 #xFE) #xFF))(check-synth)" "((define-fun f () Bool true))" []
    ∷ row "(set-logic BV)(synth-fun f () Bool ((A Bool)) ((A Bool (true))))(constraint (= (bvsrem #x07 #xFE) #x01))(check-synth)" "((define-fun f () Bool true))" []
    ∷ row "(set-logic BV)(synth-fun f () Bool ((A Bool)) ((A Bool (true))))(constraint (= (bvashr #x80 #x08) #xFF))(check-synth)" "((define-fun f () Bool true))" []
    ∷ row "(set-logic BV)(synth-fun f () Bool ((A Bool)) ((A Bool (true))))(constraint (= (bvashr #x80 #xFF) #xFF))(check-synth)" "((define-fun f () Bool true))" []
    ∷ row "(set-logic BV)(synth-fun f () Bool ((A Bool)) ((A Bool (true))))(constraint (= (bvashr #x40 #x09) #x00))(check-synth)" "((define-fun f () Bool true))" []
    ∷ row "(set-logic BV)(synth-fun f () Bool ((A Bool)) ((A Bool (true))))(constraint (= (bvsdiv #b1 #b1) #b1))(check-synth)" "((define-fun f () Bool true))" []
    ∷ row "(set-logic BV)(declare-var x (_ BitVec 8))(declare-var p Bool)(constraint (= x (bvnand x x)))" "" (7 ∷ 24 ∷ 0 ∷ [])
    ∷ row "(set-logic BV)(declare-var x (_ BitVec 8))(declare-var p Bool)(constraint (bvandx x x))" "" (7 ∷ 21 ∷ 0 ∷ [])
    ∷ row "(set-logic BV)(declare-var x (_ BitVec 8))(declare-var p Bool)(constraint (BVAND x x))" "" (7 ∷ 21 ∷ 0 ∷ [])
    ∷ row "(set-logic BV)(declare-var x (_ BitVec 8))(synth-fun f () Bool ((A Bool)) ((A Bool (true))))(constraint false)(assume (distinct x x))(check-synth)" "((define-fun f () Bool true))" []
    ∷ row "(set-logic BV)(declare-var x (_ BitVec 8))(synth-fun f () Bool ((A Bool)) ((A Bool (true))))(assume (= x #x01))(constraint true)(check-synth)" "((define-fun f () Bool true))" []
    ∷ row "(set-logic BV)(declare-var x (_ BitVec 8))(synth-fun f () Bool ((A Bool)) ((A Bool (true))))(assume true)(assume (= x x))(constraint true)(check-synth)" "((define-fun f () Bool true))" []
    ∷ row "(set-logic BV)(declare-var x (_ BitVec 8))(synth-fun f () Bool ((A Bool)) ((A Bool (true))))(assume false)(assume (= x x))(check-synth)" "((define-fun f () Bool true))" []
    ∷ row "(set-logic BV)(declare-var x (_ BitVec 8))(synth-fun f () Bool ((A Bool)) ((A Bool (true))))(assume true)(check-synth)" "((define-fun f () Bool true))" []
    ∷ row "(set-logic BV)(synth-fun f () Bool ((A Bool)) ((A Bool (true))))(assume false)(constraint false)(check-synth)" "((define-fun f () Bool true))" []
    ∷ row "(set-logic BV)(synth-fun f () Bool ((A Bool)) ((A Bool (true))))(assume f)(check-synth)" "((define-fun f () Bool true))" []
    ∷ row "(assume true)(set-logic BV)(synth-fun f () Bool ((A Bool)) ((A Bool (true))))(check-synth)" "" (5 ∷ 0 ∷ 0 ∷ [])
    ∷ row "(set-logic BV)(declare-var x (_ BitVec 8))(assume x)" "" (8 ∷ 15 ∷ 0 ∷ [])
    ∷ row "(set-logic BV)(synth-fun f () Bool ((A Bool)) ((A Bool (true))))(check-synth)" "((assume true))" (5 ∷ 1 ∷ [])
    ∷ row "(set-logic BV)(declare-var x (_ BitVec 8))(synth-fun f () Bool ((A Bool)) ((A Bool (true))))(assume (= x #x01))(constraint (= x #x02))(check-synth)" "((define-fun f () Bool true))" []
    ∷ row "(set-logic BV)(declare-var x (_ BitVec 8))(synth-fun f () Bool ((A Bool)) ((A Bool (true))))(assume (= x #x01))(constraint false)(check-synth)" "((define-fun f () Bool true))" []
    ∷ row "(set-logic BV)" "" (5 ∷ 4 ∷ 0 ∷ [])
    ∷ row "(set-logic BV)(foo)" "" (5 ∷ 4 ∷ 0 ∷ [])
    ∷ row "(set-logic BV)(synth-fun f () Bool ((A Bool)) ((A Bool (true))))(check-synth)" "fail" (10 ∷ 0 ∷ [])
    ∷ row "(set-logic BV)(synth-fun f () Bool ((A Bool)) ((A Bool (true))))(check-synth)" "( (define-fun f () Bool (not true)))" []
    ∷ row "(set-logic BV)(declare-var x Bool)(declare-var x Bool)" "" (7 ∷ 11 ∷ 6 ∷ [])
    ∷ row "(set-logic BV)(constraint q)" "" (7 ∷ 6 ∷ 0 ∷ [])
    ∷ row "(set-logic BV)(constraint v)(declare-var v Bool)" "" (7 ∷ 6 ∷ 0 ∷ [])
    ∷ row "(set-logic BV)(declare-var v Bool)(declare-var w v)" "" (7 ∷ 12 ∷ 0 ∷ [])
    ∷ row "(set-logic BV)(define-fun g ((g Bool)) Bool true)" "" (7 ∷ 9 ∷ 6 ∷ [])
    ∷ row "(set-logic BV)(define-fun g ((a Bool) (a Bool)) Bool true)" "" (7 ∷ 13 ∷ 9 ∷ [])
    ∷ row "(set-logic BV)(define-fun g ((a Bool) (a Bool) (a Bool)) Bool true)" "" (7 ∷ 13 ∷ 9 ∷ [])
    ∷ row "(set-logic BV)(synth-fun f ((a Bool)) Bool ((a Bool)) ((a Bool (true))))" "" (7 ∷ 16 ∷ 9 ∷ [])
    ∷ row "(set-logic BV)(define-fun g ((a Bool)) Bool a)(declare-var a Bool)(synth-fun f () Bool ((A Bool)) ((A Bool (true))))(check-synth)" "((define-fun f () Bool true))" []
    ∷ row "(set-logic BV)(synth-fun f () Bool ((A Bool) (B Bool)) ((A Bool (true)) (B Bool ((not B)))))(check-synth)" "" (9 ∷ 16 ∷ 0 ∷ [])
    ∷ row "(set-logic BV)(synth-fun f ((x (_ BitVec 8))) Bool ((A Bool)) ((A Bool ((Variable Bool)))))(check-synth)" "" (9 ∷ 20 ∷ 0 ∷ [])
    ∷ row "(set-logic BV)(synth-fun f () Bool ((A Bool) (B Bool)) ((A Bool (true #x00)) (B Bool ((not B)))))(check-synth)" "" (9 ∷ 26 ∷ 0 ∷ [])
    ∷ row "(set-logic BV)(synth-fun f () Bool ((A Bool) (B Bool) (C Bool)) ((A Bool (true)) (B Bool (C)) (C Bool (B))))(check-synth)" "" (9 ∷ 16 ∷ 0 ∷ [])
    ∷ row "(set-logic BV)(synth-fun f () Bool ((A Bool)) ((A Bool (A))))(declare-sort S 0)" "" (9 ∷ 12 ∷ 0 ∷ [])
    ∷ []

-- The definitions answer every one of them so.
pub decided : map defined readings ≡ map (λ (r : Reading). r.answer) readings
unfolding after all all_in all_numerals answered any_of any_uncarried argument_tokens attributes_shape before bytes_at called_sort chained command_shape command_uncarried constants_past count dead_misfit dead_place differing earlier form_sorts form_yields formed forms_of grammar_place group_left group_right hashed in_order in_script_order inside is_decimal is_known is_named is_not_carried is_one_of is_reserved item item_sort items_of join judged judged_all judged_body judged_extra keyword_form kind_of known_after label_sort last_before least_in levels_at levels_before limit_place listing_misfit literal_kind marked name_place named named_by new_names new_pairs node_word nodes_of nodes_past numeral_kind one_pass operator_at operator_of operator_sort operators pairwise passes place_in raw_terms read_all reserved_words rule_misfit rule_past rules_in rules_of run_end same_bytes same_sorts sides sort_by sort_over sorting_place spelled starts_from symbol_kind symbol_means term_fault term_shapes terms_in tested total_of trees_from unknown_in with_each with_sort word_at word_end word_starts words_in words_of
decided = refl

-- Those with the words of request E13.
abbrev weighted : List Reading
weighted =
    row "(set-logic BV)(set-feature :weights true)(synth-fun f () Bool ((A Bool)) ((A Bool ((! true :weight 5)))))(check-synth)" "((define-fun f () Bool true))" []
    ∷ row "(set-logic BV)(set-feature :weights true)(set-feature :weights true)(synth-fun f () Bool ((A Bool)) ((A Bool (true))))(check-synth)" "" (5 ∷ 9 ∷ 0 ∷ [])
    ∷ row "(set-feature :weights true)(set-logic BV)(synth-fun f () Bool ((A Bool)) ((A Bool (true))))(check-synth)" "" (5 ∷ 0 ∷ 0 ∷ [])
    ∷ row "(set-logic BV)(declare-var p Bool)(set-feature :weights true)(synth-fun f () Bool ((A Bool)) ((A Bool (true))))(check-synth)" "" (5 ∷ 9 ∷ 0 ∷ [])
    ∷ row "(set-logic BV)(set-feature :weights false)(synth-fun f () Bool ((A Bool)) ((A Bool (true))))(check-synth)" "" (6 ∷ 4 ∷ 0 ∷ [])
    ∷ row "(set-logic BV)(synth-fun f () Bool ((A Bool)) ((A Bool (true))))(set-feature :weights false)(check-synth)" "" (6 ∷ 26 ∷ 0 ∷ [])
    ∷ row "(set-logic BV)(set-feature :weights x)(synth-fun f () Bool ((A Bool)) ((A Bool (true))))(check-synth)" "" (5 ∷ 4 ∷ 0 ∷ [])
    ∷ row "(set-logic BV)(set-feature :weights 1)(synth-fun f () Bool ((A Bool)) ((A Bool (true))))(check-synth)" "" (5 ∷ 4 ∷ 0 ∷ [])
    ∷ row "(set-logic BV)(set-feature :weight true)(synth-fun f () Bool ((A Bool)) ((A Bool (true))))(check-synth)" "" (6 ∷ 4 ∷ 0 ∷ [])
    ∷ row "(set-logic BV)(synth-fun f () Bool ((A Bool)) ((A Bool ((! true :weight 1)))))(check-synth)" "" (6 ∷ 4 ∷ 0 ∷ [])
    ∷ row "(set-logic BV)(set-feature :weights true)(synth-fun f () Bool ((A Bool)) ((A Bool ((! true :weight 1 :weight 2)))))(check-synth)" "((define-fun f () Bool true))" []
    ∷ row "(set-logic BV)(set-feature :weights true)(synth-fun f () Bool ((A Bool)) ((A Bool ((! true)))))(check-synth)" "" (5 ∷ 9 ∷ 0 ∷ [])
    ∷ row "(set-logic BV)(set-feature :weights true)(synth-fun f () Bool ((A Bool)) ((A Bool ((! true :weight)))))(check-synth)" "" (5 ∷ 9 ∷ 0 ∷ [])
    ∷ row "(set-logic BV)(set-feature :weights true)(synth-fun f () Bool ((A Bool)) ((A Bool ((! true :weight true)))))(check-synth)" "" (5 ∷ 9 ∷ 0 ∷ [])
    ∷ row "(set-logic BV)(set-feature :weights true)(synth-fun f () Bool ((A Bool)) ((A Bool ((! true :weight 1 2)))))(check-synth)" "" (5 ∷ 9 ∷ 0 ∷ [])
    ∷ row "(set-logic BV)(set-feature :weights true)(synth-fun f () Bool ((A Bool)) ((A Bool ((! :weight 1)))))(check-synth)" "" (5 ∷ 9 ∷ 0 ∷ [])
    ∷ row "(set-logic BV)(set-feature :weights true)(synth-fun f () Bool ((A Bool)) ((A Bool (true (not (! A :weight 1))))))(check-synth)" "" (6 ∷ 9 ∷ 0 ∷ [])
    ∷ row "(set-logic BV)(set-feature :weights true)(synth-fun f () Bool ((A Bool)) ((A Bool ((! (! true :weight 1) :weight 2)))))(check-synth)" "" (6 ∷ 9 ∷ 0 ∷ [])
    ∷ row "(set-logic BV)(set-feature :weights true)(synth-fun f () Bool ((A Bool)) ((A Bool (true))))(constraint (! true :weight 1))(check-synth)" "" (6 ∷ 31 ∷ 0 ∷ [])
    ∷ row "(set-logic BV)(set-feature :weights true)(synth-fun f () Bool ((A Bool)) ((A Bool (true))))(check-synth)" "((define-fun f () Bool (! true :weight 1)))" (6 ∷ 1 ∷ [])
    ∷ row "(set-logic BV)(set-feature :weights true)(synth-fun f () Bool ((A Bool)) ((A Bool (true))))(check-synth)" ":weight" (5 ∷ 0 ∷ [])
    ∷ row "(set-logic BV)(declare-var :weight Bool)(synth-fun f () Bool ((A Bool)) ((A Bool (true))))(check-synth)" "" (5 ∷ 4 ∷ 0 ∷ [])
    ∷ row "(set-logic BV)(synth-fun f () Bool ((A Bool)) ((A Bool (true))))(constraint :weight)(check-synth)" "" (5 ∷ 26 ∷ 0 ∷ [])
    ∷ row "(set-logic BV)(set-feature :weights true)(synth-fun f () Bool ((A Bool)) ((A Bool ((! (Constant Bool) :weight 1)))))(check-synth)" "" (5 ∷ 9 ∷ 0 ∷ [])
    ∷ row "(set-logic BV)(set-feature :weights true)(synth-fun f () Bool ((A Bool)) ((A Bool ((! true :weight 65535)))))(check-synth)" "((define-fun f () Bool true))" []
    ∷ row "(set-logic BV)(set-feature :weights true)(synth-fun f () Bool ((A Bool)) ((A Bool ((! true :weight 65536)))))(check-synth)" "" (4 ∷ 30 ∷ 0 ∷ [])
    ∷ row "(set-logic BV)(set-feature :weights true)(synth-fun f () Bool ((A Bool)) ((A Bool ((! true :weight 1 :weight 65536)))))(check-synth)" "" (4 ∷ 32 ∷ 0 ∷ [])
    ∷ row "(set-logic BV)(set-feature :weights true)(synth-fun f () Bool ((A Bool)) ((A Bool (! true :weight 1))))(check-synth)" "" (6 ∷ 9 ∷ 0 ∷ [])
    ∷ row "(set-logic BV)(set-feature :weights true)(synth-fun f () Bool ((A Bool)) ((A Bool (true (! #x00 :weight 1)))))(check-synth)" "" (9 ∷ 27 ∷ 0 ∷ [])
    ∷ row "(set-logic BV)(set-feature :weights true)(synth-fun f () Bool ((A Bool)) ((A Bool (true (! (and A #x00) :weight 1)))))(check-synth)" "" (8 ∷ 29 ∷ 0 ∷ [])
    ∷ row "(set-logic BV)(set-feature :weights true)(synth-fun f () Bool ((A Bool)) ((A Bool (true))))(constraint (= (_ weight f) #x00))(check-synth)" "" (6 ∷ 31 ∷ 0 ∷ [])
    ∷ row "(set-logic BV)(set-feature :weights true)(declare-weight w)(synth-fun f () Bool ((A Bool)) ((A Bool (true))))(check-synth)" "" (6 ∷ 9 ∷ 0 ∷ [])
    ∷ row "(set-logic BV)(synth-fun f () Bool ((A Bool)) ((A Bool ((! true :weight 1) (let ((a true)) a)))))(check-synth)" "" (6 ∷ 4 ∷ 0 ∷ [])
    ∷ row "(set-logic BV)(set-feature :weights true)(synth-fun f () Bool ((A Bool)) ((A Bool (true (! A :weight 0)))))(check-synth)" "((define-fun f () Bool true))" []
    ∷ row "(set-feature :weights true)(synth-fun f () Bool ((A Bool)) ((A Bool (true))))(check-synth)" "" (5 ∷ 0 ∷ 0 ∷ [])
    ∷ row "(set-logic BV)(set-feature :weights true)(synth-fun f () Bool ((A Bool)) ((A Bool ((! true :weight 1)) x)))(check-synth)" "" (6 ∷ 9 ∷ 0 ∷ [])
    ∷ row "(set-logic BV)(set-feature :weights true)(synth-fun f () Bool ((A Bool)) ((A Bool ((! true :weight 1))) x))(check-synth)" "" (5 ∷ 9 ∷ 0 ∷ [])
    ∷ row "(set-logic BV)(set-feature :weights true)(synth-fun f () Bool ((A Bool)) ((A Bool ((! true :weight :weight 3)))))(check-synth)" "" (5 ∷ 9 ∷ 0 ∷ [])
    ∷ row "(set-logic BV)(set-feature :weights true)(synth-fun f () Bool ((A Bool)) ((A Bool ((! true :weights 3)))))(check-synth)" "" (5 ∷ 9 ∷ 0 ∷ [])
    ∷ []

-- The definitions answer every one of them so.
pub weighted_decided : map defined weighted ≡ map (λ (r : Reading). r.answer) weighted
unfolding after all all_in all_numerals answered any_of any_uncarried argument_tokens attributes_shape before bytes_at called_sort chained command_shape command_uncarried constants_past count dead_misfit dead_place differing earlier form_sorts form_yields formed forms_of grammar_place group_left group_right hashed in_order in_script_order inside is_decimal is_known is_named is_not_carried is_one_of is_reserved item item_sort items_of join judged judged_all judged_body judged_extra keyword_form kind_of known_after label_sort last_before least_in levels_at levels_before limit_place listing_misfit literal_kind marked name_place named named_by new_names new_pairs node_word nodes_of nodes_past numeral_kind one_pass operator_at operator_of operator_sort operators pairwise passes place_in raw_terms read_all reserved_words rule_misfit rule_past rules_in rules_of run_end same_bytes same_sorts sides sort_by sort_over sorting_place spelled starts_from symbol_kind symbol_means term_fault term_shapes terms_in tested total_of trees_from unknown_in with_each with_sort word_at word_end word_starts words_in words_of
weighted_decided = refl
