-- One function: the parts of the tables that the search for its derivation and the check of one are handed.
use Prim.Native.Nat.{ℕ, ◌+◌, ◌*◌, ◌≤◌}
use native.Mathlib.Omega.{arith}
use mathlib.Core.Path.{◌≡◌, sym, ap, ap₂, ◌∙◌}
use mathlib.Core.List.{List}
use lib.ListN.{drop, get_or, length, take}
use lib.Seq.{drop-drop, get_or-drop}
use Rattle.forest.specs.Forest.{count}
use Rattle.forest.specs.Limits.{most_rules}
use Rattle.terms.specs.code.Nodes.{node_table, row_width, size_at}
use Rattle.derivation.specs.code.Rules.{rule_width}
use Rattle.derivation.specs.code.Tables.{Given, form_table, right_sides, rule_table}
use Rattle.script.specs.code.Places.{body_in, form_rows_in, forms_in, function_width, functions_place, rule_count_in, rules_of, rules_place}
use Rattle.one_function.specs.code.OneFunction.{OneHeld, rows_from}
use Rattle.one_function.proofs.BodyRows.{body_one, body_plain, body_rows, body_size, body_within}

module _ {places nodes forms : List ℕ} {j : ℕ} (q : OneHeld places nodes forms j) where
  -- Number k of the numbers of functions.
  number_is : (k : ℕ) {n : ℕ} → n ≡ functions_place + k → get_or places n 0 ≡ get_or (drop functions_place places) k 0
  number_is k e = ap (λ (n : ℕ). get_or places n 0) e ∙ sym (get_or-drop functions_place places k 0)

  -- How many rules there are.
  rule_count : rule_count_in places j ≡ length q.function.grammar.rules
  rule_count = number_is (function_width * j + 2) (omega arith) ∙ q.grammar_held.rules_are

  -- The row at which the forms begin.
  first_form : forms_in places j ≡ get_or (drop functions_place places) (function_width * j) 0
  first_form = number_is (function_width * j) (omega arith)

  -- How many rows they take.
  form_count : form_rows_in places j ≡ get_or (drop functions_place places) (function_width * j + 1) 0
  form_count = number_is (function_width * j + 1) (omega arith)

  -- There are no more rules than a grammar may have.
  pub few_rules : rule_count_in places j ≤ most_rules
  few_rules = omega (arith, rule_count, q.grammar_held.few_rules)

  -- The rules are those of the function's grammar.
  pub rules_are : rules_of places j ≡ rule_table 0 q.function.grammar.rules
  rules_are =
      ap₂ (λ (n : ℕ) (l : List ℕ). take (rule_width * n) l) rule_count (sym (drop-drop (rules_place j) functions_place places)) ∙ q.grammar_held.table_is

  -- The body is one term.
  pub one_body : count q.body ≡ 1
  one_body = body_one q.stands

  module _ {first many : ℕ} (first_is : first ≡ forms_in places j) (many_is : many ≡ form_rows_in places j) where
    -- The rows of the forms end within their table.
    pub forms_end : row_width * (first + many) ≤ length forms
    forms_end = omega (arith, first_form, form_count, q.grammar_held.within, q.forms_room)

    -- The forms are the right sides of its rules.
    pub forms_are : rows_from forms first many ≡ form_table (right_sides q.function.grammar.rules)
    forms_are = ap₂ (rows_from forms) (first_is ∙ first_form) (many_is ∙ form_count) ∙ q.grammar_held.forms_are

  module _ {node size : ℕ} (node-is : node ≡ body_in places j) (size_is : size ≡ size_at nodes node) where
    -- The rows of the body end within their table.
    pub body_end : row_width * (node + size) ≤ length nodes
    body_end = rw (size_is, node-is) (rw (← body_size q.stands q.rest q.nodes_are) at (body_within q.stands q.rest q.nodes_are))

    -- They are its table.
    pub body_is : rows_from nodes node size ≡ node_table q.body
    body_is = rw (size_is, node-is, body_size q.stands q.rest q.nodes_are) (body_rows q.stands q.rest q.nodes_are)

  module _ {rules sides body : List ℕ} (rules_here : rules ≡ rules_of places j)
      {first many : ℕ} (first_is : first ≡ forms_in places j) (many_is : many ≡ form_rows_in places j) (sides-here : sides ≡ rows_from forms first many)
      {node size : ℕ} (node-is : node ≡ body_in places j) (size_is : size ≡ size_at nodes node) (body_here : body ≡ rows_from nodes node size) where
    -- The three parts hold the function's grammar and its body.
    abbrev pub one_given : Given rules sides body
    one_given = record {
      G = q.function.grammar;
      F = q.body;
      holds = record {
        is_rules = rules_here ∙ rules_are;
        is_forms = sides-here ∙ forms_are first_is many_is;
        is_body = body_here ∙ body_is node-is size_is;
        plain = body_plain q.stands q.plain;
        leaves = q.leaves;
      };
      admitted = q.admitted;
    }
