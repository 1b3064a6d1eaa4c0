-- The bodies of a response that passes have their functions' sorts, where all `define-fun`s are seen, and few nodes.
use mathlib.Core.List.{List, [], ◌∷◌, map}
use mathlib.Core.Path.{◌≡◌}
use Rattle.terms.specs.Sorts.{Definition}
use Rattle.terms.specs.code.Sorted.{FunctionsSorted, signatures}
use Rattle.names.specs.Scopes.{Defined, Function, signature_of}
use Rattle.script.specs.Script.{Known, definitions_of}
use Rattle.script.specs.Response.{Body, in_script_order}
use Rattle.outcome.specs.Derived.{terms_of}
use Rattle.outcome.specs.Evaluated.{completed, functions_with}
use Rattle.outcome.proofs.Sorts.{TermsSorted, terms_functions_sorted, terms_signatures_same}
use Rattle.outcome.proofs.Sorts.TermsSorted.{also_sorted, none_sorted}
use Rattle.evaluation.specs.code.Tables.{SmallBodies}
use Rattle.outcome.specs.code.Assured.{BodiesFit}

-- Bodies that fit are terms of their functions' sorts.
pub bodies_sorted : (defs : List Defined) (fs : List Function) (bs : List Body) → BodiesFit defs fs bs → TermsSorted defs fs (terms_of bs)
unfolding BodiesFit
bodies_sorted defs [] [] fit = none_sorted
bodies_sorted defs [] (b ∷ bs) fit = absurd fit
bodies_sorted defs (f ∷ fs) [] fit = absurd fit
bodies_sorted defs (f ∷ fs) (b ∷ bs) fit = also_sorted fit.0 (bodies_sorted defs fs bs fit.2)

-- The functions with bodies that fit have at most 256 nodes a body, behind such as have.
completed_small : (defs : List Defined) (fs : List Function) (bs : List Body) (earlier : List Definition) → BodiesFit defs fs bs → SmallBodies earlier
    → SmallBodies (completed fs (terms_of bs) earlier)
unfolding BodiesFit SmallBodies completed
completed_small defs [] [] earlier fit small = small
completed_small defs [] (b ∷ bs) earlier fit small = absurd fit
completed_small defs (f ∷ fs) [] earlier fit small = absurd fit
completed_small defs (f ∷ fs) (b ∷ bs) earlier fit small =
    completed_small defs fs bs (record { signature = signature_of f; body = b.term } ∷ earlier) fit.2 (fit.1, small)

module _ (k : Known) (bs : List Body) (fit : BodiesFit k.defined (in_script_order k.functions) bs) where
  -- The functions with bodies that fit are sorted.
  pub functions_sorted : FunctionsSorted (definitions_of k.defined) (functions_with k (terms_of bs))
  functions_sorted = terms_functions_sorted k (bodies_sorted k.defined (in_script_order k.functions) bs fit)

  -- They have the signatures of the script's functions.
  pub signatures_same : signatures (functions_with k (terms_of bs)) ≡ map signature_of k.functions
  signatures_same = terms_signatures_same k (bodies_sorted k.defined (in_script_order k.functions) bs fit)

  -- Their bodies have at most 256 nodes each.
  pub functions_small : SmallBodies (functions_with k (terms_of bs))
  unfolding SmallBodies
  functions_small = completed_small k.defined (in_script_order k.functions) bs [] fit tt
