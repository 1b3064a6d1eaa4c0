-- What a script and a response that pass keep to, besides the sorts of rules, bodies, constraints and assumptions.
use Rattle.forest.specs.Limits.{most_nodes}
use Rattle.std.specs.Prelude.{◌≤◌, List, [], ◌∷◌, ◌≡◌}
use Rattle.std.proofs.Math.Option.{some}
use Rattle.forest.specs.code.Cursors.{size}
use Rattle.terms.specs.Sorts.{sorts_of as termSorts}
use Rattle.derivation.specs.code.Admitted.{Admitted}
use Rattle.evaluation.specs.code.Points.{SortsSmall}
use Rattle.evaluation.specs.code.Running.{SmallTerms}
use Rattle.evaluation.specs.code.Tables.{SmallBodies}
use Rattle.names.specs.Scopes.{Defined, Function, named_sorts}
use Rattle.term_faults.specs.Faults.{scope_of}
use Rattle.script.specs.Script.{Known, definitions_of}
use Rattle.outcome.specs.code.Sorted.{Sorted}
use Rattle.script.specs.Response.{Body, response_view}

-- The grammar of each function is one that document 01 admits.
unfoldable pub AllAdmitted : List Function → Type 0
AllAdmitted [] = Unit {0}
AllAdmitted (f ∷ others) = Admitted f.grammar × AllAdmitted others

-- The bodies of `define-fun`s, the constraints and the assumptions of a script have at most 256 nodes each.
pub record FewNodes (k : Known) : Type 0 where
  pub bodies : SmallBodies (definitions_of k.defined)
  pub constraints : SmallTerms k.constraints
  pub assumptions : SmallTerms k.assumptions

-- A script that passes.
pub record Assured (k : Known) : Type 0 where
  pub sorted : Sorted k
  pub admitted : AllAdmitted k.functions
  pub small : SortsSmall (named_sorts k.variables)
  pub few : FewNodes k

-- A body for each function, in script order, of the function's sort, with at most 256 nodes.
unfoldable pub BodiesFit : (defs : List Defined) → List Function → List Body → Type 0
BodiesFit defs [] [] = Unit {0}
BodiesFit defs [] (b ∷ bs) = ⊥
BodiesFit defs (f ∷ fs) [] = ⊥
BodiesFit defs (f ∷ fs) (b ∷ bs) =
    (termSorts (scope_of (response_view defs f)).terms b.term ≡ some (f.result ∷ [])) × (size b.term ≤ most_nodes) × BodiesFit defs fs bs
