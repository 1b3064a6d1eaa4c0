-- Terms that have sorts apply only functions that are known.
use Prim.Native.Nat.{ℕ}
use mathlib.Core.Path.{◌≡◌}
use mathlib.Core.List.{List, [], ◌∷◌}
use mathlib.Core.Option.{some}
use lib.ListN.{length, length-map}
use Rattle.forest.specs.Forest.{none, tree}
use Rattle.terms.specs.Labels.{Label, Terms, defined, function, literal, name, operator}
use Rattle.terms.specs.Sorts.{Definition, Scope, label_sort, sorts_of}
use Rattle.terms.specs.code.Sorted.{AllSorted, FunctionsSorted, body_scope}
use Rattle.terms.proofs.Bodies.{called_within}
use Rattle.terms.proofs.Sorted.{sorted}
use Rattle.evaluation.specs.code.Tables.{CallsDefined, CallsEarlier, CallsKnown, Callable}

module _ (scope : Scope) where
  -- A label that has a sort applies a function that is known.
  label_known : (l : Label) (ss : List ℕ) {s : ℕ} → label_sort scope l ss ≡ some s → Callable (length scope.defined) (length scope.functions) l
  unfolding label_sort
  label_known (literal s v) ss h = tt
  label_known (name s k) ss h = tt
  label_known (operator o i j) ss h = tt
  label_known (defined k) ss h = called_within scope.defined k ss h
  label_known (function k) ss h = called_within scope.functions k ss h

  -- Terms that have sorts apply only such functions.
  sorts_known : (t : Terms) {ss : List ℕ} → sorts_of scope t ≡ some ss → CallsKnown (length scope.defined) (length scope.functions) t
  unfolding CallsKnown
  sorts_known none h = tt
  sorts_known (tree l ops rest) h =
      let p = sorted scope l ops rest h in
      (label_known l p.operands p.label, sorts_known ops p.ops_have, sorts_known rest p.rest_have)

-- The body of each `define-fun` applies only those before it, where each body has its sort.
pub defined_calls : (defs : List Definition) → AllSorted defs → CallsEarlier defs
unfolding AllSorted CallsEarlier
defined_calls [] s = tt
defined_calls (d ∷ earlier) s = (rw length-map at (sorts_known (body_scope earlier d.signature) d.body s.0), defined_calls earlier s.1)

-- The bodies of synthesized functions apply only `define-fun`s, where each body has its sort.
pub function_calls : (defs funs : List Definition) → FunctionsSorted defs funs → CallsDefined (length defs) funs
unfolding FunctionsSorted CallsDefined
function_calls defs [] s = tt
function_calls defs (f ∷ others) s =
    (rw length-map at (sorts_known (body_scope defs f.signature) f.body s.0), function_calls defs others s.1)
