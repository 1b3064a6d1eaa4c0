-- Function j of a script and a response that pass, in the tables that hold them.
use Prim.Native.Nat.{ℕ, ◌+◌, ◌<◌}
use native.Mathlib.Omega.{arith}
use mathlib.Core.Path.{◌≡◌, sym, ◌∙◌}
use mathlib.Core.List.{List}
use lib.ListN.{drop, length}
use Rattle.derivation.specs.code.Admitted.{Admitted, LeavesFit}
use Rattle.derivation.proofs.Leaves.{sorted_fit}
use Rattle.names.specs.Scopes.{Function}
use Rattle.term_faults.specs.Faults.{scope_of}
use Rattle.script.specs.Script.{Known}
use Rattle.script.specs.declared.Progress.{Progress}
use Rattle.script.specs.Response.{Body, in_script_order, response_view}
use Rattle.response.proofs.Picked.{At, BodyAt, body_at, each, grammar_at, order_length, place}
use Rattle.outcome.specs.code.Assured.{AllAdmitted}
use Rattle.outcome.specs.code.Held.{Held}
use Rattle.outcome.specs.code.Sorted.{AllRulesSorted, RulesSorted}
use Rattle.one_function.specs.code.OneFunction.{OneHeld}
use Rattle.one_function.proofs.FunctionAndBody.{Both, as_many, both}

module _ {text names places nodes forms : List ℕ} {p : Progress} {k : Known} {bs : List Body} (held : Held text names places nodes forms p k bs) where
  -- There are as many functions as the reading has counted.
  pub functions_many : length (in_script_order k.functions) ≡ p.functions
  functions_many = order_length k.functions ∙ sym held.counted.functions_are

  -- There is a body for each.
  pub bodies_many : length bs ≡ p.functions
  bodies_many = as_many k.defined (in_script_order k.functions) bs held.response ∙ functions_many

  module _ {j : ℕ} (more : j < p.functions) where
    -- Function j and its body.
    pub next : Both k.defined (in_script_order k.functions) bs j
    next = both k.defined (in_script_order k.functions) bs j held.response (omega (arith, functions_many))

    -- It is one of the functions.
    pub next-at : At k.functions j next.function
    next-at = place k.functions j (drop (j + 1) (in_script_order k.functions)) next.function_is

    -- Its body stands in the tables.
    pub next_body : BodyAt text held.bodies_held.places_hold.all places j next.body
    next_body = body_at 0 j j bs (omega arith) held.bodies_held.bodies_at next.body_is

    -- Its grammar is one that document 01 admits.
    pub next_admitted : Admitted next.function.grammar
    unfolding AllAdmitted
    next_admitted = each {Has = λ (f : Function). Admitted f.grammar} {All = AllAdmitted} (λ f others all. all) next-at held.script.admitted

    -- The literals of its body are values of their sorts, and the names are the function's arguments.
    pub next_leaves : LeavesFit next.function.grammar.arguments next.body.term
    unfolding AllRulesSorted
    next_leaves =
        let defs = k.defined in
        let sorted = each {Has = RulesSorted defs} {All = AllRulesSorted defs} (λ f others all. all) next-at held.script.sorted.functions in
        rw sorted.arguments (sorted_fit (scope_of (response_view defs next.function)).terms next.body.term next.sort)

    -- The tables hold its grammar and its body.
    abbrev pub one_held : OneHeld places nodes forms j
    one_held =
        let tables = held.bodies_held.places_hold in
        record {
          function = next.function;
          body = next.body.term;
          long = tables.long;
          rows = p.forms;
          grammar_held = grammar_at next-at held.grammars_hold;
          forms_room = held.forms_room;
          admitted = next_admitted;
          all = tables.all;
          rest = tables.rest;
          nodes_are = tables.nodes_are;
          plain = tables.plain;
          stands = next_body.begins;
          few = next.few;
          leaves = next_leaves;
          low = omega (arith, held.counted.few_functions);
        }
