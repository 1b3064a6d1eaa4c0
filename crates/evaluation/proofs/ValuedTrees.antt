-- The functions that trees with values apply.
use Prim.Native.Nat.{ℕ, suc, ◌<◌}
use native.Mathlib.Omega.{arith}
use mathlib.Core.Path.{◌≡◌, refl}
use mathlib.Core.Bool.{Bool, true, false, cond}
use mathlib.Core.List.{List, [], ◌∷◌}
use mathlib.Core.Option.{Option, some}
use borrow.Author.Tests.{eqb-true}
use lib.Dec.{eqb}
use lib.ListN.{length}
use Rattle.forest.proofs.Options.{never}
use Rattle.forest.specs.Forest.{none, tree}
use Rattle.terms.proofs.Valued.{tree_parts}
use Rattle.terms.specs.Labels.{Label, Terms, defined, function, literal, name, operator}
use Rattle.terms.specs.Sorts.{Definition}
use Rattle.terms.specs.Values.{defined_value, function_value, label_value, values_at}
use Rattle.terms.specs.declared.Value.{Value}
use Rattle.evaluation.specs.code.Tables.{CallsKnown, Callable}

-- A number whose value is that of function n, or that of others, which are below n, is at most n.
at_most_last : (k n : ℕ) (last others : Option Value) {v : Value} → cond (eqb k n) last others ≡ some v → (others ≡ some v → k < n) → k < suc n
at_most_last k n last others {v} h later = by_case (eqb k n) refl h
  where
    by_case : (here : Bool) → eqb k n ≡ here → cond here last others ≡ some v → k < suc n
    by_case true e g = omega (arith, eqb-true k n e)
    by_case false e g = omega (arith, later g)

-- A `define-fun` that gives a value is one of those known.
defined_known : (defs : List Definition) (k : ℕ) (vs : List Value) {v : Value} → defined_value defs k vs ≡ some v → k < length defs
unfolding defined_value
defined_known [] k vs h = never h
defined_known (d ∷ earlier) k vs h = at_most_last k (length earlier) _ _ h (λ g. defined_known earlier k vs g)

-- So is a synthesized function.
function_known : (defs funs : List Definition) (k : ℕ) (vs : List Value) {v : Value} → function_value defs funs k vs ≡ some v → k < length funs
unfolding function_value
function_known defs [] k vs h = never h
function_known defs (f ∷ earlier) k vs h = at_most_last k (length earlier) _ _ h (λ g. function_known defs earlier k vs g)

module _ (defs funs : List Definition) (point : List Value) where
  -- A label that has a value applies a function that is known.
  pub label_known : (l : Label) (vs : List Value) {v : Value}
      → label_value (record { names = point; defined = defined_value defs; functions = function_value defs funs }) l vs ≡ some v
      → Callable (length defs) (length funs) l
  unfolding label_value
  label_known (literal s v) vs h = tt
  label_known (name s k) vs h = tt
  label_known (operator o i j) vs h = tt
  label_known (defined k) vs h = defined_known defs k vs h
  label_known (function k) vs h = function_known defs funs k vs h

  -- Terms that have values apply only functions that are known.
  pub calls_known : (t : Terms) {vs : List Value} → values_at defs funs point t ≡ some vs → CallsKnown (length defs) (length funs) t
  unfolding CallsKnown
  calls_known none h = tt
  calls_known (tree l ops rest) h =
      let p = tree_parts (record { names = point; defined = defined_value defs; functions = function_value defs funs }) l ops rest h in
      (label_known l p.operands p.label, calls_known ops p.ops_have, calls_known rest p.rest_have)
