-- "P marks: proved of the definitions, as one table under one statement."
use Prim.Native.Nat.{ℕ, zero, suc, ◌<◌}
use Prim.Native.String.{String}
use native.Mathlib.Omega.{arith}
use mathlib.Core.Bool.{Bool, true, false, ◌&&◌, ◌||◌, not}
use mathlib.Core.List.{List, [], ◌∷◌, ◌++◌, append-nil}
use mathlib.Core.Option.{some}
use mathlib.Core.Path.{◌≡◌, refl, subst, sym, ap, ap₂, ◌∙◌}
use borrow.Author.Tests.{eq-eqb, eqb-false, eqb-true}
use lib.Dec.{eqb}
use lib.ListN.{length}
use Rattle.forest.specs.Lists.{spelling, same_bytes}
use Rattle.derivation.specs.Productive.{form_yields, one_pass, passes}
use Rattle.derivation.specs.Sorts.{form_sorts, item_sort}
use Rattle.forest.specs.Forest.{count, join, nodes_of, Forest, none, tree}
use Rattle.forest.specs.Search.{place_in}
use Rattle.grammars.specs.Grammars.{dead_place}
use Rattle.grammars.specs.Listing.{dead_misfit, listing_misfit}
use Rattle.headers.specs.Tokens.{argument_tokens, differing, words_in}
use Rattle.lexemes.specs.Lists.{after, all_numerals, inside, item, items_of}
use Rattle.lexemes.specs.Reserved.{is_one_of, is_reserved, reserved_words}
use Rattle.names.specs.New.{named_by, new_pairs}
use Rattle.names.specs.Scopes.{forms_of, in_order, is_known, is_named, symbol_means, Defined, Function, Named}
use Rattle.names.specs.Unknown.{unknown_in}
use Rattle.operators.specs.Operators.{named, operator_at, operator_of, operators, operator_sort, operator_value}
use Rattle.operators.specs.Sorts.{sort_by}
use Rattle.shapes.specs.Carried.{any_uncarried, command_uncarried, is_not_carried}
use Rattle.shapes.specs.Shapes.{all, command_shape, term_shapes}
use Rattle.term_faults.specs.Faults.{rule_misfit, term_fault}
use Rattle.term_nodes.specs.Rules.{nodes_past, rule_past, rules_in, rules_of, sides}
use Rattle.term_nodes.specs.Terms.{constants_past, node_word, raw_terms}
use Rattle.terms.specs.Sorts.{called_sort, label_sort, same_sorts, sort_over, with_sort, Definition}
use Rattle.word_kinds.specs.Kinds.{all_in, formed, hashed, kind_of, literal as literal_kind, numeral as numeralKind, spelled, symbol as symbolKind}
use Rattle.words.specs.Spans.{run_end, starts_from, word_end, word_starts}
use Rattle.words.specs.Trees.{levels_at, levels_before, trees_from}
use Rattle.words.specs.Words.{bytes_at, word_at, words_of}
use Rattle.written_sorts.specs.Written.{least_in}
use Rattle.forest.proofs.Bools.{and_left, and_right}
use Rattle.terms.specs.Labels.{Label, Terms, literal}
use Rattle.terms.specs.Costs.{costs as summedCosts, defined_cost}
use Rattle.terms.specs.code.Nodes.{code_of, value_of}
use Rattle.terms.proofs.Bench.{d0, d1, d2}
use Rattle.derivation.specs.Answer.{start}
use Rattle.derivation.specs.Derivation.{Grammar, Item, Simple, any_argument, any_literal, constant, form_of, head_of, non_terminal, rule, the, variable}
use Rattle.derivation.specs.Derivation.Simple.{s_done, s_leaf, s_rule, s_same}
use Rattle.derivation.proofs.Bench.{hole, only, ring, ring_only, ring_shown, ring_body, swap, swap_shown, swap_body, x}
use Rattle.derivation.proofs.Likeness.{any_not_hole, any_not_label}
use Rattle.derivation.proofs.Same.{same_numbers}
use Rattle.derivation.proofs.Simple.{empty}
use Rattle.script.specs.Outcome.{response_within, script_outcome}
use Rattle.script.specs.Response.{answered, in_script_order, judged_all, judged_body, judged_extra}
use Rattle.script.specs.Script.{Known, grammar_place, judged, known_after, limit_place, name_place, read_all, sorting_place, terms_in, tested}
use Rattle.words.specs.Reading.{depth_after, fault_at, found_from, reading_of}
use Rattle.test_decided.specs.Bench.{AllSettled, Costing, Mark, Shown, also, bench, cost_script, costs, derivation, no_more, ring_response, ring_script}
use Rattle.test_decided.specs.Bench.{swap_response, swap_script, value}

-- ---- the one list of the swap body

-- Whether a right side may derive a term of this label, by its first node.
abbrev begins : Forest Item → Label → Bool
begins none m = false
begins (tree (the l) ps qs) m = eqb (code_of l) (code_of m) && eqb (value_of l) (value_of m)
begins (tree (non_terminal A) ps qs) m = true
begins (tree (any_literal s) ps qs) m = true
begins (tree (any_argument s) ps qs) m = true

module _ (G : Grammar) where
  -- What derives a term may.
  begun : {seen ds : List ℕ} {P : Forest Item} {l : Label} {ts us : Terms} → Simple G seen P (tree l ts us) ds → begins P l ≡ true
  begun (s_rule r h e f d d2) = refl
  begun (s_leaf (constant h) d) = refl
  begun (s_leaf (variable a) d) = refl
  begun (s_same {l = l} {m = m} e d d2) =
      let n = same_numbers l m e in
      ap₂ (λ (a b : Bool). a && b) (eq-eqb (code_of l) (code_of m) n.0) (eq-eqb (value_of l) (value_of m) n.1)

  -- Whether rule r is one of A that may.
  abbrev fits : (A : ℕ) → Label → (r : ℕ) → Bool
  fits A l r = eqb (head_of G.rules r) A && begins (form_of G.rules r) l

  -- Whether no rule below n does but rule k.
  unfoldable alone : (A : ℕ) → Label → (k n : ℕ) → Bool
  alone A l k zero = true
  alone A l k (suc n) = (eqb n k || not (fits A l n)) && alone A l k n

  -- Then a rule that does is that one.
  the_one : (A : ℕ) (l : Label) (k n : ℕ) → alone A l k n ≡ true → (r : ℕ) → r < n → fits A l r ≡ true → r ≡ k
  unfolding alone
  the_one A l k zero a r h f = absurd (omega arith)
  the_one A l k (suc n) a r h f =
      go (eqb n r) refl (and_left (eqb n k || not (fits A l n)) (alone A l k n) a)
      (λ below. the_one A l k n (and_right (eqb n k || not (fits A l n)) (alone A l k n) a) r below f)
    where
      this : (t u : Bool) → (t || not u) ≡ true → u ≡ true → t ≡ true
      this true u e q = refl
      this false true e q = e
      this false false e q = q

      go : (t : Bool) → eqb n r ≡ t → (eqb n k || not (fits A l n)) ≡ true → (r < n → r ≡ k) → r ≡ k
      go true e here later =
          let same = eqb-true n r e in
          sym same ∙ eqb-true n k (this (eqb n k) (fits A l n) here (subst (λ (m : ℕ). fits A l m ≡ true) (sym same) f))
      go false e here later = let other = eqb-false n r e in later (omega arith)

  -- The rule that a list begins with, what it does, and what follows.
  record Begins (k A : ℕ) (l : Label) (ts us : Terms) (seen : List ℕ) (ps : Forest Item) (list : List ℕ) : Type 0 where
    first : List ℕ
    rest : List ℕ
    is : list ≡ k ∷ (first ++ rest)
    by : Simple G (A ∷ seen) (form_of G.rules k) (tree l ts none) first
    next : Simple G [] ps us rest

  -- Where one rule alone may, the list begins with it.
  begins_with : (k A : ℕ) {l : Label} {ts us : Terms} {seen : List ℕ} {ps : Forest Item} {list : List ℕ} → alone A l k (length G.rules) ≡ true
      → Simple G seen (tree (non_terminal A) none ps) (tree l ts us) list → Begins k A l ts us seen ps list
  begins_with k A {l} {ts} {us} {seen} {ps} a (s_rule {ds = ds} {es = es} r h e f d d2) =
      let both = ap₂ (λ (a b : Bool). a && b) (eq-eqb (head_of G.rules r) A e) (begun d) in
      let same = the_one A l k (length G.rules) a r h both in
      record {
        first = ds;
        rest = es;
        is = ap (λ (m : ℕ). m ∷ (ds ++ es)) same;
        by = subst (λ (m : ℕ). Simple G (A ∷ seen) (form_of G.rules m) (tree l ts none) ds) same d;
        next = d2;
      }
  begins_with k A a (s_leaf y d) = absurd (any_not_hole y A refl)

  -- A label derives itself by what its operands take.
  operands : {seen list : List ℕ} {l m : Label} {ps : Forest Item} {ts : Terms} → Simple G seen (tree (the l) ps none) (tree m ts none) list
      → Simple G [] ps ts list
  operands {ps = ps} {ts} (s_same {ds = ds} e d s_done) = subst (Simple G [] ps ts) (sym (append-nil ds)) d
  operands {l = l} (s_leaf a d) = absurd (any_not_label a l refl)

-- `x` by rule 3, and `#x0000` by rule 8.
from_x : {list : List ℕ} → Simple swap [] (hole 0) (tree x none none) list → list ≡ 3 ∷ []
unfolding alone head_of form_of
from_x d =
    let b = begins_with swap 3 0 refl d in
    b.is ∙ ap₂ (λ (a b : List ℕ). 3 ∷ (a ++ b)) (empty swap (operands swap b.by)) (empty swap b.next)

from_zero : {list : List ℕ} → Simple swap [] (hole 1) (tree (literal 16 0) none none) list → list ≡ 8 ∷ []
unfolding alone head_of form_of
from_zero d =
    let b = begins_with swap 8 1 refl d in
    b.is ∙ ap₂ (λ (a b : List ℕ). 8 ∷ (a ++ b)) (empty swap (operands swap b.by)) (empty swap b.next)

-- The body by 7, 15, 3, 8 and no other list.
swap_only : (list : List ℕ) → Simple swap [] start swap_body list → list ≡ 7 ∷ 15 ∷ 3 ∷ 8 ∷ []
unfolding alone head_of form_of
swap_only list d =
    let b = begins_with swap 7 0 refl d in
    let c = begins_with swap 15 1 refl (operands swap b.by) in
    let inner = c.is ∙ ap₂ (λ (a b : List ℕ). 15 ∷ (a ++ b)) (from_x (operands swap c.by)) (from_zero c.next) in
    b.is ∙ ap₂ (λ (a b : List ℕ). 7 ∷ (a ++ b)) inner (empty swap b.next)

-- ---- from the texts

-- A function of an argument x of 32 bits.
abbrev over_x : (non_terminals : List Named) → Grammar → Function
over_x non_terminals grammar =
    record {
      name = spelling "f";
      at = 6;
      arguments = record { name = spelling "x"; at = 9; sort = 32 } ∷ [];
      result = 32;
      non_terminals = non_terminals;
      grammar = grammar;
      before = 0;
    }

-- What a script of `define-fun`s and one function says.
abbrev saying : List Defined → Function → Known
saying defined f = record { logic = true; weights = false; ended = true; variables = []; defined = defined; functions = f ∷ []; constraints = []; assumptions = [] }

abbrev swap_function : Function
swap_function = over_x (record { name = spelling "BV32"; at = 24; sort = 32 } ∷ record { name = spelling "BV16"; at = 32; sort = 16 } ∷ []) swap

abbrev ring_function : Function
ring_function = over_x (record { name = spelling "A"; at = 24; sort = 32 } ∷ record { name = spelling "B"; at = 32; sort = 32 } ∷ []) ring

-- The swap case.
swap_settled : Shown (spelling swap_script) (spelling swap_response) (7 ∷ 15 ∷ 3 ∷ 8 ∷ [])
unfolding after all all_in all_numerals answered any_uncarried argument_tokens bytes_at called_sort command_shape command_uncarried constants_past count dead_misfit dead_place depth_after differing fault_at form_sorts form_yields formed forms_of found_from grammar_place hashed in_order in_script_order inside is_known is_named is_one_of is_reserved item item_sort items_of join judged judged_all judged_body judged_extra kind_of known_after label_sort least_in levels_at levels_before limit_place listing_misfit literal_kind name_place named named_by new_pairs node_word nodes_of nodes_past is_not_carried numeralKind one_pass operator_at operator_of operator_sort operators passes place_in raw_terms read_all reading_of reserved_words response_within rule_misfit rule_past rules_in rules_of run_end same_bytes same_sorts script_outcome sides sort_by sort_over sorting_place spelled starts_from symbolKind symbol_means term_fault term_shapes terms_in tested trees_from unknown_in with_sort word_at word_end word_starts words_in words_of
swap_settled =
    record {
      k = saying [] swap_function;
      f = swap_function;
      b = record { first = 19; term = swap_body };
      says = refl;
      function = refl;
      gives = refl;
      derives = swap_shown;
      only = swap_only;
    }

-- The ring.
ring_settled : Shown (spelling ring_script) (spelling ring_response) (0 ∷ 2 ∷ [])
unfolding after all all_in all_numerals answered any_uncarried argument_tokens bytes_at called_sort command_shape command_uncarried constants_past count dead_misfit dead_place depth_after differing fault_at form_sorts form_yields formed forms_of found_from grammar_place hashed in_order in_script_order inside is_known is_named is_one_of is_reserved item item_sort items_of join judged judged_all judged_body judged_extra kind_of known_after label_sort least_in levels_at levels_before limit_place listing_misfit literal_kind name_place named named_by new_pairs node_word nodes_of nodes_past is_not_carried numeralKind one_pass operator_at operator_of operator_sort operators passes place_in raw_terms read_all reading_of reserved_words response_within rule_misfit rule_past rules_in rules_of run_end same_bytes same_sorts script_outcome sides sort_by sort_over sorting_place spelled starts_from symbolKind symbol_means term_fault term_shapes terms_in tested trees_from unknown_in with_sort word_at word_end word_starts words_in words_of
ring_settled =
    record {
      k = saying [] ring_function;
      f = ring_function;
      b = record { first = 19; term = ring_body };
      says = refl;
      function = refl;
      gives = refl;
      derives = ring_shown;
      only = λ other d. ring_only d;
    }

-- A `define-fun` by its name and the word of it.
abbrev called : String → (at : ℕ) → Definition → Defined
called n at d = record { name = spelling n; at = at; definition = d }

-- A function without arguments that is true.
abbrev always : Function
always =
    record {
      name = spelling "f";
      at = 82;
      arguments = [];
      result = 0;
      non_terminals = record { name = spelling "A"; at = 88; sort = 0 } ∷ [];
      grammar = record { arguments = []; rules = rule 0 0 (only (literal 0 1)) ∷ [] };
      before = 3;
    }

-- The costs.
costs_settled : Costing (spelling cost_script) (3 ∷ 9 ∷ 21 ∷ [])
unfolding after all all_in all_numerals answered any_uncarried argument_tokens bytes_at called_sort command_shape command_uncarried constants_past count dead_misfit dead_place depth_after differing fault_at form_sorts form_yields formed forms_of found_from grammar_place hashed in_order in_script_order inside is_known is_named is_one_of is_reserved item item_sort items_of join judged judged_all judged_body judged_extra kind_of known_after label_sort least_in levels_at levels_before limit_place listing_misfit literal_kind name_place named named_by new_pairs node_word nodes_of nodes_past is_not_carried numeralKind one_pass operator_at operator_of operator_sort operators passes place_in raw_terms read_all reading_of reserved_words response_within rule_misfit rule_past rules_in rules_of run_end same_bytes same_sorts script_outcome sides sort_by sort_over sorting_place spelled starts_from symbolKind symbol_means term_fault term_shapes terms_in tested trees_from unknown_in with_sort word_at word_end word_starts words_in words_of summedCosts defined_cost
costs_settled = record { k = saying (called "d2" 56 d2 ∷ called "d1" 30 d1 ∷ called "d0" 6 d0 ∷ []) always; says = refl; costs_are = refl }

-- A value that is computed.
pub with_value : {n : String} {i j : ℕ} {sorts values : List ℕ} {s r : ℕ} {more : List Mark} → operator_sort (operator_of (spelling n)) i j sorts ≡ some s
    → operator_value (operator_of (spelling n)) i j sorts values ≡ r → AllSettled more → AllSettled (value n i j sorts values s r ∷ more)
with_value {n} {i} {j} {sorts} {values} {s} {r} e h rest = also {m = value n i j sorts values s r} (record { sort_is = e; value_is = h }) rest

-- The three of texts.
texts_settled : AllSettled (derivation swap_script swap_response (7 ∷ 15 ∷ 3 ∷ 8 ∷ []) ∷ derivation ring_script ring_response (0 ∷ 2 ∷ [])
    ∷ costs cost_script (3 ∷ 9 ∷ 21 ∷ []) ∷ [])
texts_settled =
    also {m = derivation swap_script swap_response (7 ∷ 15 ∷ 3 ∷ 8 ∷ [])} swap_settled
    (also {m = derivation ring_script ring_response (0 ∷ 2 ∷ [])} ring_settled
    (also {m = costs cost_script (3 ∷ 9 ∷ 21 ∷ [])} costs_settled no_more))

-- Every row of the table is so.
pub settled : AllSettled bench
unfolding named operator_at operator_of operator_sort operator_value operators same_bytes sort_by
settled =
    with_value refl refl
    (with_value refl refl
    (with_value refl refl
    (with_value refl refl
    (with_value refl refl
    (with_value refl refl
    (with_value refl refl
    (with_value refl refl
    (with_value refl refl
    (with_value refl refl
    (with_value refl refl
    (with_value refl refl
    texts_settled)))))))))))
