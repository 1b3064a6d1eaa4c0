-- The tables of a script and a response that pass hold the functions that the run of the constraints applies.
use Prim.Native.Nat.{ℕ, ◌+◌, ◌≤◌}
use native.Mathlib.Numerals.{add-one}
use native.Mathlib.Omega.{arith}
use mathlib.Core.Path.{◌≡◌, ap, sym, subst, ◌∙◌}
use mathlib.Core.List.{List, [], ◌∷◌}
use lib.ListN.{drop, get_or, length, length-map}
use lib.Seq.{get_or-drop}
use Rattle.terms.specs.Labels.{Terms}
use Rattle.terms.specs.Sorts.{Definition}
use Rattle.evaluation.specs.code.Tables.{BodiesAt, BodiesHold, CallsDefined, CallsEarlier, SmallBodies, TermStands}
use Rattle.forest.specs.Limits.{most_defined, most_functions}
use Rattle.names.specs.Scopes.{Defined, Function, signature_of}
use Rattle.script.specs.Script.{Known, definitions_of}
use Rattle.script.specs.code.Places.{bodies_place}
use Rattle.script.specs.declared.Progress.{Progress}
use Rattle.script.specs.Response.{Body, in_script_order}
use Rattle.response.specs.code.Answers.{ResponseAt}
use Rattle.outcome.specs.Derived.{terms_of}
use Rattle.outcome.specs.Evaluated.{completed, functions_with}
use Rattle.outcome.specs.code.Held.{Held}
use Rattle.outcome.proofs.BodiesAssured.{functions_small, functions_sorted, signatures_same}
use Rattle.evaluation.proofs.Calls.{defined_calls, function_calls}

module _ (text : List ℕ) (all : Terms) (places : List ℕ) where
  -- The bodies of a response stand behind those of `define-fun`s, the last first, where those before them do.
  completed_at : (fs : List Function) (bs : List Body) (earlier : List Definition) → ResponseAt text all places (length earlier) bs
      → BodiesAt all (drop bodies_place places) most_defined earlier → BodiesAt all (drop bodies_place places) most_defined (completed fs (terms_of bs) earlier)
  unfolding BodiesAt ResponseAt completed
  completed_at [] bs earlier more before = before
  completed_at (f ∷ fs) [] earlier more before = before
  completed_at (f ∷ fs) (b ∷ bs) earlier more before =
      let n = length earlier in
      let place : bodies_place + most_defined + n ≡ bodies_place + (most_defined + n) = omega arith in
      let node = ap (λ (i : ℕ). get_or places i 0) place ∙ sym (get_or-drop bodies_place places (most_defined + n) 0) in
      let here = subst (λ (i : ℕ). TermStands all i b.term) node more.0 in
      completed_at fs bs (record { signature = signature_of f; body = b.term } ∷ earlier) (rw add-one at more.2) (here, before)

module _ {text names places nodes forms : List ℕ} {p : Progress} {k : Known} {bs : List Body} (h : Held text names places nodes forms p k bs) where
  -- There are as many `define-fun`s as the script has.
  pub defined_are : p.defined ≡ length (definitions_of k.defined)
  defined_are = h.counted.defined_are ∙ sym (length-map k.defined (λ (d : Defined). d.definition))

  -- There are as many synthesized functions as the script has.
  pub functions_are : p.functions ≡ length (functions_with k (terms_of bs))
  functions_are =
      let funs = functions_with k (terms_of bs) in
      h.counted.functions_are ∙ sym (length-map k.functions signature_of) ∙ sym (ap length (signatures_same k bs h.response))
      ∙ length-map funs (λ (d : Definition). d.signature)

  -- The bodies of `define-fun`s have at most 256 nodes each.
  pub small_defined : SmallBodies (definitions_of k.defined)
  small_defined = h.script.few.bodies

  -- So have those of synthesized functions.
  pub small_functions : SmallBodies (functions_with k (terms_of bs))
  small_functions = functions_small k bs h.response

  -- The body of each `define-fun` applies only those before it.
  pub earlier_calls : CallsEarlier (definitions_of k.defined)
  earlier_calls = defined_calls (definitions_of k.defined) h.script.sorted.bodies

  -- The bodies of synthesized functions apply only `define-fun`s.
  pub response_calls : CallsDefined (length (definitions_of k.defined)) (functions_with k (terms_of bs))
  response_calls = function_calls (definitions_of k.defined) (functions_with k (terms_of bs)) (functions_sorted k bs h.response)

  -- There are not too many `define-fun`s.
  pub defined_most : length (definitions_of k.defined) ≤ most_defined
  defined_most = omega (arith, defined_are, h.counted.few_defined)

  -- There are not too many synthesized functions.
  pub functions_most : length (functions_with k (terms_of bs)) ≤ most_functions
  functions_most = omega (arith, functions_are, h.counted.few_functions)

  module _ {bodies : List ℕ} (bodies-are : bodies ≡ drop bodies_place places) where
    -- The bodies of `define-fun`s stand from the first place on.
    pub defined_at : BodiesAt h.bodies_held.places_hold.all bodies 0 (definitions_of k.defined)
    defined_at = rw bodies-are h.bodies_held.places_hold.bodies_at

    -- Those of synthesized functions stand behind them.
    pub functions_at : BodiesAt h.bodies_held.places_hold.all bodies most_defined (functions_with k (terms_of bs))
    unfolding BodiesAt
    functions_at = rw bodies-are (completed_at text h.bodies_held.places_hold.all places (in_script_order k.functions) bs [] h.bodies_held.bodies_at tt)

    -- The tables hold all of them.
    abbrev pub tables_hold : BodiesHold nodes bodies (definitions_of k.defined) (functions_with k (terms_of bs))
    tables_hold =
        record {
          all = h.bodies_held.places_hold.all;
          rest = h.bodies_held.places_hold.rest;
          nodes_are = h.bodies_held.places_hold.nodes_are;
          plain = h.bodies_held.places_hold.plain;
          defined_at = defined_at;
          functions_at = functions_at;
          small_defined = small_defined;
          small_functions = small_functions;
          defined_calls = earlier_calls;
          function_calls = response_calls;
          defined_most = defined_most;
          functions_most = functions_most;
        }
