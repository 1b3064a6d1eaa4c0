-- Synthesized functions with terms for their bodies, where each term has its function's sort: so it has where all `define-fun`s are seen, and the functions
-- keep their signatures.
use Prim.Native.Nat.{◌-◌}
use mathlib.Core.List.{List, [], ◌∷◌, ◌++◌, map, map-append, map-map}
use mathlib.Core.Option.{some}
use mathlib.Core.Path.{◌≡◌, refl, ap, sym, subst, ◌∙◌}
use lib.ListN.{drop, length, take, take-append-drop}
use Rattle.terms.specs.Labels.{Terms}
use Rattle.terms.specs.Sorts.{Definition, Scope, Signature, sorts_of as termSorts}
use Rattle.terms.specs.code.Sorted.{BodySorted, FunctionsSorted, signatures}
use Rattle.terms.specs.Values.{sorts_in}
use Rattle.terms.specs.declared.Value.{Value}
use Rattle.terms.proofs.Bodies.{sorts_more}
use Rattle.terms.proofs.Sound.{point_scope}
use Rattle.names.specs.Scopes.{Defined, Function, signature_of, named_sorts}
use Rattle.term_faults.specs.Faults.{scope_of}
use Rattle.script.specs.Script.{Known, constraint_view, definitions_of}
use Rattle.script.specs.code.Tables.{defined_signatures}
use Rattle.script.specs.Response.{in_script_order, response_view}
use Rattle.outcome.specs.Evaluated.{completed, functions_with}

-- Each function's term has the function's sort, where the `define-fun`s before the function are seen.
pub data TermsSorted (defs : List Defined) : List Function → List Terms → Type 0 where
  none_sorted : TermsSorted defs [] []
  also_sorted : {f : Function} {t : Terms} {fs : List Function} {ts : List Terms} → termSorts (scope_of (response_view defs f)).terms t ≡ some (f.result ∷ [])
      → TermsSorted defs fs ts → TermsSorted defs (f ∷ fs) (t ∷ ts)

-- The signatures of the definitions of `define-fun`s.
defined-signatures : (defs : List Defined) → signatures (definitions_of defs) ≡ defined_signatures defs
defined-signatures defs = map-map (λ (d : Definition). d.signature) (λ (d : Defined). d.definition) defs

-- A term that has its function's sort has it where all `define-fun`s are seen.
pub seen_by_all : (defs : List Defined) (f : Function) (t : Terms) → termSorts (scope_of (response_view defs f)).terms t ≡ some (f.result ∷ [])
    → BodySorted (definitions_of defs) (record { signature = signature_of f; body = t })
seen_by_all defs f t h =
    let later = length defs - f.before in
    let sees : List Signature → Scope = λ known. record { names = named_sorts f.arguments; defined = known; functions = [] } in
    let whole : defined_signatures (take later defs) ++ defined_signatures (drop later defs) ≡ signatures (definitions_of defs) =
    sym (map-append (λ (d : Defined). d.definition.signature) (take later defs) (drop later defs))
    ∙ ap defined_signatures (take-append-drop later defs) ∙ sym (defined-signatures defs) in
    subst (λ (known : List Signature). termSorts (sees known) t ≡ some (f.result ∷ [])) whole
    (sorts_more (defined_signatures (take later defs)) [] (scope_of (response_view defs f)).terms t h)

-- The functions with their terms are sorted, behind such as are.
completed_sorted : {defs : List Defined} {fs : List Function} {ts : List Terms} (earlier : List Definition) → TermsSorted defs fs ts
    → FunctionsSorted (definitions_of defs) earlier → FunctionsSorted (definitions_of defs) (completed fs ts earlier)
unfolding FunctionsSorted completed
completed_sorted earlier none_sorted sorted = sorted
completed_sorted {defs} earlier (also_sorted {f = f} {t = t} h more) sorted =
    completed_sorted (record { signature = signature_of f; body = t } ∷ earlier) more (seen_by_all defs f t h, sorted)

-- The functions of a script with terms of their sorts are sorted.
pub terms_functions_sorted : (k : Known) {ts : List Terms} → TermsSorted k.defined (in_script_order k.functions) ts
    → FunctionsSorted (definitions_of k.defined) (functions_with k ts)
unfolding FunctionsSorted
terms_functions_sorted k sorted = completed_sorted [] sorted tt

-- The signatures of functions in script order, the last first, behind others.
turned : List Function → List Signature → List Signature
turned [] earlier = earlier
turned (f ∷ fs) earlier = turned fs (signature_of f ∷ earlier)

-- Those of functions one after the other.
turned_append : (fs gs : List Function) (earlier : List Signature) → turned (fs ++ gs) earlier ≡ turned gs (turned fs earlier)
unfolding turned
turned_append [] gs earlier = refl
turned_append (f ∷ fs) gs earlier = turned_append fs gs (signature_of f ∷ earlier)

-- Functions that stand the last first, put in script order and turned, stand as before.
turned_back : (fs : List Function) → turned (in_script_order fs) [] ≡ map signature_of fs
unfolding in_script_order turned
turned_back [] = refl
turned_back (f ∷ earlier) = turned_append (in_script_order earlier) (f ∷ []) [] ∙ ap (λ (ss : List Signature). signature_of f ∷ ss) (turned_back earlier)

-- The signatures of functions with their terms.
completed_signatures : {defs : List Defined} {fs : List Function} {ts : List Terms} (earlier : List Definition) → TermsSorted defs fs ts
    → signatures (completed fs ts earlier) ≡ turned fs (signatures earlier)
unfolding completed turned
completed_signatures earlier none_sorted = refl
completed_signatures earlier (also_sorted {f = f} {t = t} h more) = completed_signatures (record { signature = signature_of f; body = t } ∷ earlier) more

-- The functions of a script with terms of their sorts have their signatures, the last first as in the script's.
pub terms_signatures_same : (k : Known) {ts : List Terms} → TermsSorted k.defined (in_script_order k.functions) ts
    → signatures (functions_with k ts) ≡ map signature_of k.functions
terms_signatures_same k sorted = completed_signatures [] sorted ∙ turned_back k.functions

-- What a constraint sees at a point of the variables' sorts is what it saw in the script.
pub terms_point_scope : (k : Known) {ts : List Terms} → TermsSorted k.defined (in_script_order k.functions) ts → (point : List Value)
    → sorts_in point ≡ named_sorts k.variables → point_scope (definitions_of k.defined) (functions_with k ts) point ≡ (scope_of (constraint_view k)).terms
terms_point_scope k sorted point same = rw (same, defined-signatures k.defined, terms_signatures_same k sorted)
