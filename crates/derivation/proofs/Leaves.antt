-- Terms whose literals are values of their sorts, and whose names are arguments of the function, of their sorts.
use mathlib.Core.Path.{◌≡◌, subst}
use mathlib.Core.List.{List}
use mathlib.Core.Option.{some}
use Prim.Native.Nat.{ℕ, zero, suc}
use borrow.Author.Tests.{eqb-true, leb-true, ltb-true}
use Rattle.forest.proofs.Options.{passed}
use Rattle.forest.specs.Forest.{join, none, tree}
use Rattle.forest.specs.code.Cursors.{from}
use Rattle.terms.specs.Labels.{Label, Terms, defined, function, literal, name, operator}
use Rattle.terms.specs.Sorts.{Scope, label_sort, sorts_of}
use Rattle.terms.proofs.Sorted.{sorted}
use Rattle.derivation.specs.code.Admitted.{LeafFits, LeavesFit}
use Rattle.derivation.proofs.PassedTests.{and-true}

-- they are so of terms one after the other, of those left at a cursor, and of the node that stands there
module _ (arguments : List ℕ) where
  fit_join : (a b : Terms) → LeavesFit arguments a → LeavesFit arguments b → LeavesFit arguments (join a b)
  unfolding LeavesFit join
  fit_join none b p q = q
  fit_join (tree l ops rest) b p q = (p.0, p.1, fit_join rest b p.2 q)

  fit_from : (all : Terms) (i : ℕ) → LeavesFit arguments all → LeavesFit arguments (from all i)
  unfolding LeavesFit from
  fit_from all zero p = p
  fit_from none (suc i) p = p
  fit_from (tree l ops rest) (suc i) p = fit_from (join ops rest) i (fit_join ops rest p.1 p.2)

  pub fit_at : (all : Terms) (i : ℕ) (l : Label) (ops more : Terms) → LeavesFit arguments all → from all i ≡ tree l ops more → LeafFits arguments l
  unfolding LeavesFit
  fit_at all i l ops more p e = (subst (LeavesFit arguments) e (fit_from all i p)).0

-- the label of a node that has a sort
leaf-fits : (scope : Scope) (l : Label) (ss : List ℕ) {s : ℕ} → label_sort scope l ss ≡ some s → LeafFits scope.names l
unfolding label_sort
leaf-fits scope (literal t v) ss h =
    let p = and-true _ _ (and-true _ _ (passed _ h).0).0 in
    record { sort = leb-true _ _ p.0; value = ltb-true _ _ p.1 }
leaf-fits scope (name t k) ss h =
    let p = and-true _ _ (and-true _ _ (passed _ h).0).0 in
    record { declared = ltb-true _ _ p.0; sort = eqb-true _ _ p.1 }
leaf-fits scope (operator o i j) ss h = tt
leaf-fits scope (defined k) ss h = tt
leaf-fits scope (function k) ss h = tt

-- well-sorted terms are so: what the check of a body's sort shows is what the search for its derivation asks
pub sorted_fit : (scope : Scope) (all : Terms) {ss : List ℕ} → sorts_of scope all ≡ some ss → LeavesFit scope.names all
unfolding LeavesFit
sorted_fit scope none h = tt
sorted_fit scope (tree l ops rest) h =
    let s = sorted scope l ops rest h in
    (leaf-fits scope l s.operands s.label, sorted_fit scope ops s.ops_have, sorted_fit scope rest s.rest_have)
